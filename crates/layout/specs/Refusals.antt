-- The order of refusals: tests in a list, of which the first that fits refuses.
--   Test             a fault, and whether it fits
--   first_fit tests  the fault of the first test that fits; none where none fits
--   judged fault x   refused with the fault, or x where there is none
use Rattle.std.specs.Prelude.{Bool, cond, List, [], ◌∷◌, Some, None, Ok, Err, Option, Result}

pub record Test (F : Type 0) : Type 0 where
  pub fits : Bool
  pub fault : F

abbrev pub first_fit : {F : Type 0} → List (Test F) → Option F
first_fit [] = None
first_fit (test ∷ tests) = cond test.fits (Some test.fault) (first_fit tests)

abbrev pub judged : {X F : Type 0} → Option F → X → Result X F
judged (Some fault) x = Err fault
judged None x = Ok x
