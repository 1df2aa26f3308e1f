-- The least number of padding bytes that fills whole units: the formula gives it, and it is below the unit.
use Rattle.std.proofs.Common.{◌≡◌, ℕ, ◌+◌, ◌-◌, ◌*◌, ◌/◌, ◌%◌, ◌<◌, ◌≤◌, max, sym, ap, ◌∙◌, subst, ⊎_elim, mod-lt, mul-le-mul_left, mul-add, arith}
use native.Mathlib.Nat.{div-add-mod, add-mod-mod, mod-add-mod, mod_self, mul-mod_left}
use Rattle.std.proofs.lemmas.Bool.{cases_lt}
use Rattle.padding.specs.Padding.{Fills, LeastFill, least_pad, pad_to, padded_length}

-- of two numbers that bring x to multiples of v, one below v is not above the other
no_less : (v x p q a b : ℕ) → p < v → x + p ≡ v * a → x + q ≡ v * b → p ≤ q
no_less v x p q a b h e f =
    ⊎_elim
    (λ (l : b < a). omega (arith, mul-le-mul_left v l, mul-add v b 1))
    (λ (l : a ≤ b). omega (arith, mul-le-mul_left v l))
    (cases_lt b a)

-- a remainder of 0 says that it is a multiple
multiple : (n v : ℕ) → n % v ≡ 0 → n ≡ v * (n / v)
multiple n v e = omega (arith, div-add-mod n v)

same_rest : (a b v : ℕ) → a ≡ b → a % v ≡ b % v
same_rest a b v e = ap (λ m. m % v) e

module _ (u n : ℕ) (unit : 0 < u) where
  pad_to-below : pad_to u n < u
  pad_to-below = mod-lt (u - (n + 2) % u) unit

  -- a number of padding bytes below the unit that fills units is the least that does
  least_if_below : (p : ℕ) → p < u → Fills u n p → LeastFill u n p
  least_if_below p h e =
      record {
        fills = e;
        least = λ q f. no_less u (n + 2) p q ((n + p + 2) / u) ((n + q + 2) / u) h
            (omega (arith, multiple (n + p + 2) u e)) (omega (arith, multiple (n + q + 2) u f));
      }

  pad_to-fills : Fills u n (pad_to u n)
  pad_to-fills =
      let r : ℕ = (n + 2) % u in
      let below : r < u = mod-lt (n + 2) unit in
      same_rest (n + pad_to u n + 2) (n + 2 + pad_to u n) u (omega arith) ∙ add-mod-mod (n + 2) (u - r) u
      ∙ sym (mod-add-mod (n + 2) u (u - r)) ∙ same_rest (r + (u - r)) u u (omega arith) ∙ mod_self u

  -- found from the remainder of n alone: with the padding and two bytes it makes k units
  fills_from_rest : (p k : ℕ) → n % u + (p + 2) ≡ k * u → Fills u n p
  fills_from_rest p k rest =
      same_rest (n + p + 2) (n + (p + 2)) u (omega arith) ∙ sym (mod-add-mod n u (p + 2))
      ∙ same_rest (n % u + (p + 2)) (k * u) u rest ∙ mul-mod_left k u

  pub pad_to_from_rest : (p k : ℕ) → p < u → n % u + (p + 2) ≡ k * u → (p ≡ pad_to u n) × LeastFill u n p
  pad_to_from_rest p k h rest =
      let fills = fills_from_rest p k rest in
      let found = least_if_below p h fills in
      (omega (arith, found.least (pad_to u n) pad_to-fills, (least_if_below (pad_to u n) pad_to-below pad_to-fills).least p fills), found)

module _ (u n : ℕ) where
  pub least_pad-below : 0 < u → least_pad u n < u
  least_pad-below h = omega (arith, pad_to-below (max u 1) n (omega arith))

  pub least_pad_at_most_15 : u ≤ 16 → least_pad u n ≤ 15
  least_pad_at_most_15 h = omega (arith, pad_to-below (max u 1) n (omega arith))

  pub padded_length-multiple : 0 < u → padded_length u n % u ≡ 0
  padded_length-multiple h = subst (λ v. padded_length u n % v ≡ 0) (omega arith) (pad_to-fills (max u 1) n (omega arith))
