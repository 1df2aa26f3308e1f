-- Unpadding undoes padding and nothing else, and a text is padded in one way at most.
use Rattle.std.proofs.Common.{◌≡◌, ℕ, zero, suc, ◌+◌, ◌<◌, ◌≤◌, Bool, true, false, cond, List, [], ◌∷◌, ◌++◌, length, take, Some, None, sym, refl, ap, ◌∙◌, ⊎_elim, arith}
use Rattle.std.specs.List.{range_with_len}
use Rattle.std.proofs.lemmas.List.FromFn.{length-range_with_len}
use Rattle.std.proofs.ByRecursion.{All-append, All-take}
use Rattle.std.proofs.lemmas.Bool.Decides.{nat_tests}
use Rattle.std.proofs.lemmas.List.{append_assoc, append_cancel_right, drop_at, get_or_at, length-append, take-append-drop, take_at}
use Rattle.std.proofs.lemmas.Bool.{and_from, and_parts, cases_Bool, le-leb, leb-true}
use Rattle.octets.specs.Octets.{Octets}
use Rattle.octets.proofs.Octets.{same_refl, same_true}
use Rattle.padding.specs.Padding.{Lawful, Padded, cut, data_end, data_length, pad_length, padded, ramp, trailer, unpadded, well_padded}

module _ (p : ℕ) (xs : List ℕ) where
  pub length-padded : length (padded p xs) ≡ length xs + p + 2
  length-padded = simp (length-append, length-range_with_len) (omega arith)

  pub pad_length-padded : pad_length (padded p xs) ≡ p
  pad_length-padded =
      rw (← append_assoc xs (ramp p) (p ∷ 0 ∷ []))
      (get_or_at (xs ++ ramp p) p (0 ∷ []) 0 _ (simp (length-append, length-range_with_len) (omega arith)))

  data_end-padded : data_end (padded p xs) ≡ length xs
  data_end-padded = rw (pad_length-padded, length-padded) (omega arith)

  well_padded-padded : p ≤ 255 → well_padded (padded p xs) ≡ true
  well_padded-padded h =
      rw (data_end-padded, pad_length-padded, length-padded, drop_at xs (trailer p) (length xs) refl)
      (and_from _ _ (le-leb p 255 h) (and_from _ _ (le-leb _ _ (omega arith)) (same_refl (trailer p))))

-- what unpadding gives, by whether the trailer is right
by_trailer : (text : List ℕ) (b : Bool) → well_padded text ≡ b → unpadded text ≡ cut (cond b (Some (data_end text)) None) text
by_trailer text b e = ap (λ t. cut (cond t (Some (data_end text)) None) text) e

pub unpadded-padded : (p : ℕ) (xs : List ℕ) → p ≤ 255 → unpadded (padded p xs) ≡ Some xs
unpadded-padded p xs h =
    by_trailer (padded p xs) true (well_padded-padded p xs h)
    ∙ ap Some (ap (λ n. take n (padded p xs)) (data_end-padded p xs) ∙ take_at xs (trailer p) (length xs) refl)

pub undoes_padding : (xs text : List ℕ) (p : ℕ) → Padded xs p text → unpadded text ≡ Some xs
undoes_padding xs text p h = ap unpadded h.is ∙ unpadded-padded p xs h.allowed

pub undoes_only_padding : (xs text : List ℕ) → unpadded text ≡ Some xs → (p : ℕ) × Padded xs p text
undoes_only_padding xs text h =
    ⊎_elim
    (λ right.
    let front : take (data_end text) text ≡ xs = let e = by_trailer text true right in cc in
    let parts = and_parts _ _ right in
    let rest = and_parts _ _ parts.1 in (
      pad_length text,
      record {
        allowed = leb-true (pad_length text) 255 parts.0;
        is = sym (take-append-drop (data_end text) text) ∙ ap (λ ys. take (data_end text) text ++ ys) (same_true _ _ rest.1) ∙ ap (λ ys. ys ++ trailer (pad_length text)) front;
      },
    ))
    (λ wrong. absurd (let e = by_trailer text false wrong in let z : ◌≡◌ {A = ℕ} 0 1 = cc in omega arith))
    (cases_Bool (well_padded text))

pub padded_one_way : (xs ys text : List ℕ) (p q : ℕ) → Padded xs p text → Padded ys q text → (xs ≡ ys) × (p ≡ q)
padded_one_way xs ys text p q h k =
    let number : p ≡ q = sym (pad_length-padded p xs) ∙ ap pad_length (sym h.is ∙ k.is) ∙ pad_length-padded q ys in
    (append_cancel_right xs ys (trailer q) (ap (λ n. xs ++ trailer n) (sym number) ∙ sym h.is ∙ k.is), number)

pub lawful : Lawful
lawful = record { undoes_padding = undoes_padding; undoes_only_padding = undoes_only_padding; padded_one_way = padded_one_way }

-- what a caller has to know to go on: where the data end, and that all stays bytes

pub data_length-within : (text : List ℕ) (n : ℕ) → data_length text ≡ Some n → n + 2 ≤ length text
data_length-within text n h = grind (arith, nat_tests)

octets_counting : (a n : ℕ) → a + n ≤ 256 → Octets (range_with_len a n)
octets_counting a zero h = tt
octets_counting a (suc n) h = (omega arith, octets_counting (a + 1) n (omega arith))

pub octets-trailer : (p : ℕ) → p ≤ 255 → Octets (trailer p)
octets-trailer p h = All-append (λ x. x < 256) (ramp p) (p ∷ 0 ∷ []) (octets_counting 1 p (omega arith)) (omega arith, (omega arith, tt))

pub octets-padded : (p : ℕ) (xs : List ℕ) → p ≤ 255 → Octets xs → Octets (padded p xs)
octets-padded p xs h k = All-append (λ x. x < 256) xs (trailer p) k (octets-trailer p h)

pub octets-unpadded : (xs text : List ℕ) → unpadded text ≡ Some xs → Octets text → Octets xs
octets-unpadded xs text e h =
    let was = (undoes_only_padding xs text e).1.is in
    let front : take (length xs) text ≡ xs = ap (take (length xs)) was ∙ take_at xs _ (length xs) refl in
    rw front at (All-take (λ x. x < 256) (length xs) text h)
