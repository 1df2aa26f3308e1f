-- The text of the data, written in its place. Assumes nothing.
use Rattle.std.proofs.Common.{◌≡◌, ℕ, ◌%◌, ◌≤◌, Bool, true, false, cond, List, length, sym, refl, ap, ◌∙◌, subst, arith}
use native.Mathlib.Nat.{mod-one}
use Rattle.octets.specs.Octets.{Octets}
use Rattle.padding.specs.Padding.{padded, least_pad, padded_length}
use Rattle.padding.proofs.Laws.{length-padded, octets-padded}
use Rattle.padding.proofs.Least.{least_pad_at_most_15, padded_length-multiple}
use Rattle.suite.specs.Laws.{Bounded}
use Rattle.suite.specs.declared.Sizes.{Sizes}
use Rattle.suite.specs.declared.Triple.{Triple}
use Rattle.descriptor.specs.Text.{text_of, text_length}

module _ (z : Sizes) (xs : List ℕ) where
  pub text-padded : z.encrypts ≡ true → text_of z xs ≡ padded (least_pad z.unit (length xs)) xs
  text-padded e = ap (λ b. cond b (padded (least_pad z.unit (length xs)) xs) xs) e

  pub text_in_clear : z.encrypts ≡ false → text_of z xs ≡ xs
  text_in_clear e = ap (λ b. cond b (padded (least_pad z.unit (length xs)) xs) xs) e

  pub length-padded-text : z.encrypts ≡ true → text_length z (length xs) ≡ padded_length z.unit (length xs)
  length-padded-text e = ap (λ b. cond b (padded_length z.unit (length xs)) (length xs)) e

  pub length_text_in_clear : z.encrypts ≡ false → text_length z (length xs) ≡ length xs
  length_text_in_clear e = ap (λ b. cond b (padded_length z.unit (length xs)) (length xs)) e

  length_text_by : (b : Bool) → z.encrypts ≡ b → length (text_of z xs) ≡ text_length z (length xs)
  length_text_by true e = ap length (text-padded e) ∙ (length-padded (least_pad z.unit (length xs)) xs ∙ sym (length-padded-text e))
  length_text_by false e = ap length (text_in_clear e) ∙ sym (length_text_in_clear e)

  pub length-text : length (text_of z xs) ≡ text_length z (length xs)
  length-text = length_text_by z.encrypts refl

  units_by : (t : Triple) (b : Bool) → z.encrypts ≡ b → Bounded t z → text_length z (length xs) % z.unit ≡ 0
  units_by t true e bound =
      ap (λ n. n % z.unit) (length-padded-text e) ∙ padded_length-multiple z.unit (length xs) bound.some_unit
  units_by t false e bound =
      ap (λ n. text_length z (length xs) % n) (bound.unit_in_clear e) ∙ mod-one (text_length z (length xs))

  -- a text has whole units
  pub text-units : (t : Triple) → Bounded t z → text_length z (length xs) % z.unit ≡ 0
  text-units t bound = units_by t z.encrypts refl bound

  octets_by : (b : Bool) → z.encrypts ≡ b → z.unit ≤ 16 → Octets xs → Octets (text_of z xs)
  octets_by true e u bytes =
      subst Octets (sym (text-padded e))
      (octets-padded (least_pad z.unit (length xs)) xs (omega (arith, least_pad_at_most_15 z.unit (length xs) u)) bytes)
  octets_by false e u bytes = subst Octets (sym (text_in_clear e)) bytes

  pub octets-text : z.unit ≤ 16 → Octets xs → Octets (text_of z xs)
  octets-text = octets_by z.encrypts refl
