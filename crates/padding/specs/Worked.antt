-- Worked values of the padding, which a reader can check by hand.
--   Worked         count data bytes, in units of unit bytes, with pad padding bytes make a text of whole bytes;
--                  least says whether pad is the number that building uses
--   worked         the table: unit, count, pad, whole, least
--   stands w       whether the definitions give what the row w says, and unpadding gives the data back
--   WorkedValues   every row of the table stands
use Rattle.std.specs.Prelude.{◌≡◌, ℕ, ◌%◌, Bool, true, false, cond, not, ◌&&◌, List, [], ◌∷◌, length, replicate, Some, None, Option, ◌==◌}
use Rattle.octets.specs.Octets.{same}
use Rattle.padding.specs.Padding.{least_pad, padded, unpadded}

pub record Worked : Type 0 where
  pub unit : ℕ
  pub count : ℕ
  pub pad : ℕ
  pub whole : ℕ
  pub least : Bool

abbrev row : ℕ → ℕ → ℕ → ℕ → Bool → Worked
row u n p w l = record { unit = u; count = n; pad = p; whole = w; least = l }

abbrev pub worked : List Worked
worked =
    row 16 5 9 16 true
    ∷ row 16 0 14 16 true
    ∷ row 16 14 0 16 true
    ∷ row 16 15 15 32 true
    ∷ row 16 5 25 32 false
    ∷ []

abbrev is : Option (List ℕ) → List ℕ → Bool
is (Some ys) xs = same ys xs
is None xs = false

abbrev stands_with : Worked → List ℕ → Bool
stands_with w xs =
    (length (padded w.pad xs) == w.whole)
    && (w.whole % w.unit == 0
    && (cond w.least (least_pad w.unit w.count == w.pad) (not (least_pad w.unit w.count == w.pad))
    && is (unpadded (padded w.pad xs)) xs))

abbrev pub stands : Worked → Bool
stands w = stands_with w (replicate w.count 170)

abbrev every : List Worked → Bool
every [] = true
every (w ∷ ws) = stands w && every ws

abbrev pub WorkedValues : Type 0
WorkedValues = every worked ≡ true
