-- A rule of all numbers below a bound, from one test that is computed, one number after the other. Assumes nothing.
use Rattle.std.proofs.Common.{◌≡◌, ℕ, zero, suc, ◌<◌, Bool, true, ◌&&◌, eqb, ltb, subst, ⊎_elim, arith}
use Rattle.std.proofs.lemmas.Bool.{and_parts, cases_lt, eqb-true, ltb-true}

-- the test passes at each number below n
abbrev pub below : (ℕ → Bool) → ℕ → Bool
below f zero = true
below f (suc n) = f n && below f n

pub passed : (f : ℕ → Bool) (n : ℕ) → below f n ≡ true → (k : ℕ) → k < n → f k ≡ true
passed f zero t k h = absurd (omega arith)
passed f (suc n) t k h =
    let p = and_parts (f n) (below f n) t in
    ⊎_elim (λ l. passed f n p.1 k l) (λ l. subst (λ (m : ℕ). f m ≡ true) (omega arith) p.0) (cases_lt k n)

pub same-below : (f g : ℕ → ℕ) (n : ℕ) → below (λ x. eqb (f x) (g x)) n ≡ true → (k : ℕ) → k < n → f k ≡ g k
same-below f g n t k h = eqb-true (f k) (g k) (passed (λ x. eqb (f x) (g x)) n t k h)

pub bounded-below : (f : ℕ → ℕ) (m n : ℕ) → below (λ x. ltb (f x) m) n ≡ true → (k : ℕ) → k < n → f k < m
bounded-below f m n t k h = ltb-true (f k) m (passed (λ x. ltb (f x) m) n t k h)
