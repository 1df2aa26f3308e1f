-- A list taken 16 elements at a time, the last time what is left. Assumes nothing.
use Rattle.std.proofs.Common.{◌≡◌, ℕ, zero, suc, ◌+◌, ◌-◌, ◌/◌, ◌<◌, ◌≤◌, min, List, [], ◌∷◌, ◌++◌, length, take, drop, sym, ap, ◌∙◌, ⊎_elim, arith}
use native.Mathlib.Nat.{sub-zero}
use Rattle.std.proofs.lemmas.List.{take_all, drop_all}
use Rattle.std.proofs.lemmas.Bool.{cases_lt}

pub parts-suc : (n : ℕ) → 0 < n → (n + 15) / 16 ≡ suc ((n - 16 + 15) / 16)
parts-suc n h = omega arith

pub take_min : (k n : ℕ) (xs : List ℕ) → n ≡ min k (length xs) → take n xs ≡ take k xs
take_min k n xs h =
    ⊎_elim (λ l. ap (λ m. take m xs) (omega arith)) (λ l. take_all n xs (omega arith) ∙ sym (take_all k xs l)) (cases_lt k (length xs))

pub drop_min : (k n : ℕ) (xs : List ℕ) → n ≡ min k (length xs) → drop n xs ≡ drop k xs
drop_min k n xs h =
    ⊎_elim (λ l. ap (λ m. drop m xs) (omega arith)) (λ l. drop_all n xs (omega arith) ∙ sym (drop_all k xs l)) (cases_lt k (length xs))

-- n elements of two lists in a row, where the first has no more
pub take_behind : (n : ℕ) (xs ys : List ℕ) → length xs ≤ n → take n (xs ++ ys) ≡ xs ++ take (n - length xs) ys
take_behind n [] ys h = ap (λ m. take m ys) (sym (sub-zero n))
take_behind zero (x ∷ xs) ys h = absurd (omega arith)
take_behind (suc n) (x ∷ xs) ys h = ap (λ zs. x ∷ zs) (take_behind n xs ys (omega arith) ∙ ap (λ m. xs ++ take m ys) (omega arith))

pub drop_behind : (n : ℕ) (xs ys : List ℕ) → length xs ≤ n → drop n (xs ++ ys) ≡ drop (n - length xs) ys
drop_behind n [] ys h = ap (λ m. drop m ys) (sym (sub-zero n))
drop_behind zero (x ∷ xs) ys h = absurd (omega arith)
drop_behind (suc n) (x ∷ xs) ys h = drop_behind n xs ys (omega arith) ∙ ap (λ m. drop m ys) (omega arith)
