-- The round keys in a row, one more round of a loop over them, and its end. Assumes nothing.
use Rattle.std.proofs.Common.{◌≡◌, ℕ, suc, ◌+◌, ◌-◌, ◌/◌, ◌<◌, ◌≤◌, List, [], ◌∷◌, ◌++◌, length, get_or, take, drop, sym, refl, ap, ◌∙◌, add-one, arith}
use Rattle.std.specs.Simd.{first_chunks}
use Rattle.std.proofs.lemmas.List.{take_at, take-take, get_or-take, get_or-drop, length_push, length-take, length-drop}
use Rattle.std.proofs.Math.Seq.{get_or-append_seam}
use Rattle.std.proofs.lemmas.Bool.{cond-false, le-ltb}
use Rattle.fips197.specs.State.{sub_bytes, shift_rows, mix_columns, add_round_key, inv_sub_bytes, inv_shift_rows, inv_mix_columns}
use Rattle.aes.proofs.Chunks.{chunk_is}
use Rattle.aes.specs.Cipher.{round_key, rounds_to, forward, inv_rounds_from, inverse}

-- the schedule w as its round keys
pub record Keys (w : List ℕ) (keys : List (List ℕ)) : Type 0 where
  pub chunks : keys ≡ first_chunks 16 (length w / 16) w
  pub count : length keys ≡ length w / 16

module _ (w : List ℕ) (keys : List (List ℕ)) (all : Keys w keys) where
  key_is : (i : ℕ) → i < length keys → get_or keys i [] ≡ round_key w i
  unfolding round_key
  key_is i h = ap (λ ks. get_or ks i []) all.chunks ∙ chunk_is 16 (length w / 16) i w [] (omega (arith, all.count))

  -- those between the first and the last
  middle_is : (i n : ℕ) → i < n → 1 + i < length keys → get_or (take n (drop 1 keys)) i [] ≡ round_key w (i + 1)
  middle_is i n h l = get_or-take n (drop 1 keys) i [] h ∙ (get_or-drop 1 keys i [] ∙ (key_is (1 + i) l ∙ ap (round_key w) (omega arith)))

  pub rounds_to_more : (i n : ℕ) (s u r : List ℕ) → i < length (take n (drop 1 keys)) → u ≡ rounds_to w i s
      → r ≡ add_round_key (get_or (take n (drop 1 keys)) i []) (mix_columns (shift_rows (sub_bytes u))) → r ≡ rounds_to w (i + 1) s
  unfolding rounds_to
  rounds_to_more i n s u r below before here =
      let size = length-take n (drop 1 keys) in
      let behind = length-drop 1 keys in
      here ∙ (rw (middle_is i n (omega arith) (omega arith), before) (rw add-one refl))

  pub ciphered : (i : ℕ) (b s u r key : List ℕ) → 2 ≤ length keys → i ≡ length (take (length keys - 1 - 1) (drop 1 keys)) → s ≡ add_round_key (get_or keys 0 []) b → u ≡ rounds_to w i s
      → key ≡ get_or keys (length keys - 1) [] → r ≡ add_round_key key (shift_rows (sub_bytes u)) → r ≡ forward w b
  ciphered i b s u r key two last first before is here =
      let count = all.count in
      let end : i ≡ length keys - 1 - 1 = last ∙ simp (length-take, length-drop) (omega arith) in
      here
      ∙ (rw (is, key_is (length keys - 1) (omega arith), before, first, key_is 0 (omega arith), end, count) refl
      ∙ sym (cond-false _ b _ (le-ltb (length w) 32 (omega arith))))

  module _ (middle : List (List ℕ)) (is : middle ≡ take (length keys - 1 - 1) (drop 1 keys)) where
    middle_long : length middle ≡ length keys - 1 - 1
    middle_long = ap length is ∙ simp (length-take, length-drop) (omega arith)

    -- key is the last of those that are left
    pub inv_rounds_from_more : (key u r end : List ℕ) (left rest : List (List ℕ)) → left ≡ rest ++ (key ∷ []) → left ≡ take (length left) middle
        → r ≡ inv_mix_columns (add_round_key key (inv_sub_bytes (inv_shift_rows u))) → inv_rounds_from w (length left) u ≡ end
        → inv_rounds_from w (length rest) r ≡ end
    unfolding inv_rounds_from
    inv_rounds_from_more key u r end left rest split front here so =
        let m = length rest in
        let size : length left ≡ suc m = ap length split ∙ (length_push rest key ∙ add-one m) in
        let within : length left ≤ length middle = omega (arith, ap length front, length-take (length left) middle) in
        let long = middle_long in
        let read : get_or left m [] ≡ get_or middle m [] = ap (λ ks. get_or ks m []) front ∙ get_or-take (length left) middle m [] (omega arith) in
        let next : key ≡ round_key w (suc m) =
        sym (get_or-append_seam rest key [] [])
        ∙ (ap (λ ks. get_or ks m []) (sym split) ∙ (read ∙ (ap (λ ks. get_or ks m []) is ∙ (middle_is m (length keys - 1 - 1) (omega arith) (omega arith) ∙ ap (round_key w) (add-one m))))) in
        rw (here, next) (rw size at so)

    pub inv_ciphered : (b s u r key : List ℕ) (left : List (List ℕ)) → 2 ≤ length keys → length left ≡ 0 → key ≡ get_or keys (length keys - 1) [] → s ≡ add_round_key key b
        → inv_rounds_from w (length left) u ≡ inv_rounds_from w (length middle) s
        → r ≡ add_round_key (get_or keys 0 []) (inv_sub_bytes (inv_shift_rows u)) → r ≡ inverse w b
    unfolding inv_rounds_from
    inv_ciphered b s u r key left two none is first so here =
        let count = all.count in
        let long = middle_long in
        let done = rw (none, long) at so in
        here
        ∙ (rw (key_is 0 (omega arith), done, first, is, key_is (length keys - 1) (omega arith), count) refl
        ∙ sym (cond-false _ b _ (le-ltb (length w) 32 (omega arith))))

-- a front without its last element
pub left_more : (key : List ℕ) (left rest middle : List (List ℕ)) → left ≡ rest ++ (key ∷ []) → left ≡ take (length left) middle → rest ≡ take (length rest) middle
left_more key left rest middle split front =
    let size : length left ≡ length rest + 1 = ap length split ∙ length_push rest key in
    sym (take_at rest (key ∷ []) (length rest) refl)
    ∙ (ap (take (length rest)) (sym split ∙ front) ∙ take-take (length rest) (length left) middle (omega arith))

pub rounds_to-none : (w s : List ℕ) → s ≡ rounds_to w 0 s
unfolding rounds_to
rounds_to-none w s = refl
