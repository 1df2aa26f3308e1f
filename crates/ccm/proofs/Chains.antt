-- Bytes taken into a chaining value, block by block. Assumes nothing.
use Rattle.std.proofs.Common.{◌≡◌, ℕ, zero, suc, ◌+◌, ◌-◌, ◌*◌, ◌/◌, ◌%◌, ◌<◌, ◌≤◌, min, List, [], ◌∷◌, ◌++◌, length, take, drop, sym, refl, ap, ◌∙◌, suc-add, zero-add, arith}
use lib.Bits.{bit_xor, xor_zero_r}
use Rattle.std.proofs.lemmas.List.{length-append, length-drop, length-replicate, take-append-le, drop-append-le, nil_from_length, drop-replicate, take_all, take_at, drop_at, length-take}
use Rattle.octets.specs.Octets.{zeros, over}
use Rattle.octets.proofs.Octets.{over-fits}
use Rattle.block.specs.Xor.{xored}
use Rattle.block.proofs.Sums.{xored-nil}
use Rattle.ccm.specs.Ccm.{whole, chained, blocks, first_block, tag, counter_block, check_value}
use Rattle.ccm.specs.Parts.{taken_in, associated, last_value, whole_check}
use Rattle.ccm.proofs.Blockwise.{parts-suc, take_min, drop_min}
use Rattle.ccm.proofs.Masks.{take-xored}

-- zeros add nothing
xored-take-zeros : (m k : ℕ) (xs : List ℕ) → xored xs (take m (zeros k)) ≡ xs
xored-take-zeros zero k xs = xored-nil xs
xored-take-zeros (suc m) zero xs = xored-nil xs
xored-take-zeros (suc m) (suc k) [] = refl
xored-take-zeros (suc m) (suc k) (x ∷ xs) =
    ap (λ z. z ∷ xored xs (take m (zeros k))) (xor_zero_r x) ∙ ap (λ zs. x ∷ zs) (xored-take-zeros m k xs)

xored-whole : (m k : ℕ) (x xs : List ℕ) → xored x (take m (xs ++ zeros k)) ≡ xored x (take m xs)
xored-whole zero k x xs = refl
xored-whole (suc m) k x [] = xored-take-zeros (suc m) k x ∙ sym (xored-nil x)
xored-whole (suc m) k [] (y ∷ xs) = refl
xored-whole (suc m) k (x ∷ xs) (y ∷ ys) = ap (λ zs. bit_xor x y ∷ zs) (xored-whole m k xs ys)

-- a block that is filled up with zeros
xored-over : (x xs : List ℕ) → length xs ≤ 16 → xored x (over xs (zeros 16)) ≡ xored x xs
xored-over x xs h =
    let filled : over xs (zeros 16) ≡ xs ++ zeros (16 - length xs) =
    over-fits xs (zeros 16) h ∙ ap (λ z. xs ++ z) (drop-replicate (length xs) 16 0) in
    let long : length (xs ++ zeros (16 - length xs)) ≤ 16 = simp (length-append, length-replicate) (omega arith) in
    ap (xored x) (filled ∙ sym (take_all 16 (xs ++ zeros (16 - length xs)) long))
    ∙ (xored-whole 16 (16 - length xs) x xs ∙ ap (xored x) (take_all 16 xs h))

drop-whole : (m k : ℕ) (xs : List ℕ) → drop m (xs ++ zeros k) ≡ drop m xs ++ zeros (k - (m - length xs))
drop-whole zero k xs = ap (λ n. xs ++ zeros n) (omega arith)
drop-whole (suc m) k [] = drop-replicate (suc m) k 0 ∙ ap zeros (omega arith)
drop-whole (suc m) k (x ∷ xs) = drop-whole m k xs ∙ ap (λ n. drop m xs ++ zeros n) (omega arith)

length_whole : (xs : List ℕ) → length (whole xs) ≡ 16 * ((length xs + 15) / 16)
unfolding whole
length_whole xs = simp (length-append, length-replicate) (omega arith)

module _ (e : List ℕ → List ℕ) where
  -- zeros at the end change nothing
  chained-whole : (n k : ℕ) (x xs : List ℕ) → chained e n x (xs ++ zeros k) ≡ chained e n x xs
  unfolding chained
  chained-whole zero k x xs = refl
  chained-whole (suc n) k x xs =
      ap (λ y. chained e n (e y) (drop 16 (xs ++ zeros k))) (xored-whole 16 k x xs)
      ∙ (ap (chained e n (e (xored x (take 16 xs)))) (drop-whole 16 k xs)
      ∙ chained-whole n (k - (16 - length xs)) (e (xored x (take 16 xs))) (drop 16 xs))

  chained_append : (n m : ℕ) (x xs ys : List ℕ) → length xs ≡ 16 * n → chained e (n + m) x (xs ++ ys) ≡ chained e m (chained e n x xs) ys
  unfolding chained
  chained_append zero m x xs ys l = ap (λ n. chained e n x (xs ++ ys)) (zero-add m) ∙ ap (λ zs. chained e m x (zs ++ ys)) (nil_from_length xs (omega arith))
  chained_append (suc n) m x xs ys l =
      ap (λ k. chained e k x (xs ++ ys)) (suc-add n m)
      ∙ (ap (λ y. chained e (n + m) (e (xored x y)) (drop 16 (xs ++ ys))) (take-append-le 16 xs ys (omega arith))
      ∙ (ap (chained e (n + m) (e (xored x (take 16 xs)))) (drop-append-le 16 xs ys (omega arith))
      ∙ chained_append n m (e (xored x (take 16 xs))) (drop 16 xs) ys (simp length-drop (omega arith))))

  -- the blocks need not be whole
  taken_in-parts : (x xs : List ℕ) → taken_in e x xs ≡ chained e ((length xs + 15) / 16) x xs
  unfolding taken_in whole
  taken_in-parts x xs =
      ap (λ n. chained e n x (whole xs)) (omega (arith, length_whole xs))
      ∙ chained-whole ((length xs + 15) / 16) ((16 - length xs % 16) % 16) x xs

  pub taken_in-nil : (x : List ℕ) → taken_in e x [] ≡ x
  unfolding chained
  taken_in-nil x = taken_in-parts x []

  -- one block more
  taken_in_more : (x xs : List ℕ) → 0 < length xs → taken_in e x xs ≡ taken_in e (e (xored x (take 16 xs))) (drop 16 xs)
  unfolding chained
  taken_in_more x xs h =
      taken_in-parts x xs
      ∙ (ap (λ n. chained e n x xs) (parts-suc (length xs) h)
      ∙ (ap (λ n. chained e ((n + 15) / 16) (e (xored x (take 16 xs))) (drop 16 xs)) (sym (length-drop 16 xs))
      ∙ sym (taken_in-parts (e (xored x (take 16 xs))) (drop 16 xs))))

  -- the step of a loop over the parts: one is taken in, and those that are left give the same
  pub taken_step : (x y part rest xs all : List ℕ) → xs ≡ part ++ rest → length part ≡ min 16 (length xs) → 0 < length xs → y ≡ e (xored x part)
      → taken_in e x xs ≡ all → taken_in e y rest ≡ all
  taken_step x y part rest xs all split size some is so =
      let front : take 16 xs ≡ part = sym (take_min 16 (length part) xs size) ∙ (ap (take (length part)) split ∙ take_at part rest (length part) refl) in
      let behind : drop 16 xs ≡ rest = sym (drop_min 16 (length part) xs size) ∙ (ap (drop (length part)) split ∙ drop_at part rest (length part) refl) in
      rw (is, ← front, ← behind) (sym (taken_in_more x xs some) ∙ so)

  pub taken_all : (x xs all : List ℕ) → length xs ≡ 0 → taken_in e x xs ≡ all → x ≡ all
  taken_all x xs all none so = sym (taken_in-nil x) ∙ (ap (taken_in e x) (sym (nil_from_length xs none)) ∙ so)

  tag_is : (t : ℕ) (nonce aad text : List ℕ) → tag e t nonce aad text ≡ take t (last_value e t nonce aad text)
  unfolding tag blocks taken_in
  tag_is t nonce aad text =
      let a = whole (associated aad) in
      let b = whole text in
      let start = e (first_block t nonce aad (length text)) in
      let la = length_whole (associated aad) in
      let lb = length_whole text in
      let count : length (a ++ b) / 16 ≡ length a / 16 + length b / 16 = simp length-append (omega arith) in
      ap (take t) (ap (λ n. chained e n start (a ++ b)) count ∙ chained_append (length a / 16) (length b / 16) start a b (omega arith))

  pub check_is : (t : ℕ) (nonce aad text : List ℕ) → take t (whole_check e t nonce aad text) ≡ check_value e t nonce aad text
  unfolding check_value
  check_is t nonce aad text =
      take-xored t (last_value e t nonce aad text) (e (counter_block nonce 0))
      ∙ ap (λ z. xored z (e (counter_block nonce 0))) (sym (tag_is t nonce aad text))

  -- a first block, filled up with zeros, and the rest
  pub taken_first : (x y first rest xs : List ℕ) → 0 < length xs → first ≡ over (take 16 xs) (zeros 16) → drop 16 xs ≡ rest → y ≡ e (xored x first)
      → taken_in e y rest ≡ taken_in e x xs
  taken_first x y first rest xs some is behind yis =
      let sum : xored x first ≡ xored x (take 16 xs) = ap (xored x) is ∙ xored-over x (take 16 xs) (simp length-take (omega arith)) in
      rw (yis, sum, ← behind) (sym (taken_in_more x xs some))
