-- What a loop of a hash function makes, by the number of its turns.
--   built rule n    the list of n numbers in which the rule gives each from those before it and its place
--   turns step n s  the state s after the steps 0 to n - 1
use Rattle.std.specs.Prelude.{ℕ, zero, suc, List, [], ◌∷◌, ◌++◌}

unfoldable pub built : (List ℕ → ℕ → ℕ) → ℕ → List ℕ
built rule zero = []
built rule (suc n) = let xs = built rule n in xs ++ rule xs n ∷ []

unfoldable pub turns : (ℕ → List ℕ → List ℕ) → ℕ → List ℕ → List ℕ
turns step zero s = s
turns step (suc n) s = step n (turns step n s)
