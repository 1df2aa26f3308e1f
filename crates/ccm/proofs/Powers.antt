-- When a number is below another that divides it. Assumes nothing.
use Rattle.std.proofs.Common.{◌≡◌, ℕ, ◌*◌, ◌/◌, ◌<◌, ◌≤◌, eqb, ltb, sym, ap, ◌∙◌, ⊎_elim, arith}
use native.Mathlib.Nat.{div-eq_of_lt, lt-div-mul-add}
use Rattle.std.proofs.lemmas.Bool.{eq-eqb, ne_eqb, lt-ltb, le-ltb, cases_lt}

-- what is divided to nothing was smaller
pub below_power : (n p : ℕ) → 0 < p → eqb (n / p) 0 ≡ ltb n p
below_power n p h =
    ⊎_elim (λ (l : n < p). eq-eqb (n / p) 0 (div-eq_of_lt l) ∙ sym (lt-ltb n p l))
    (λ (l : p ≤ n). ne_eqb (n / p) 0 (λ z. nothing z l) ∙ sym (le-ltb n p l))
    (cases_lt n p)
  where
    nothing : n / p ≡ 0 → p ≤ n → ⊥
    nothing z l =
        let near = lt-div-mul-add {a = n} {b = p} h in
        let none : n / p * p ≡ 0 * p = ap (λ k. k * p) z in
        omega arith
