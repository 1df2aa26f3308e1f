-- Running vectors.
--   found ..     the first bytes of an answer, as many as are published and 32 at most
--   tallied ..   a tally once these vectors are counted, where an input gives this answer
use Rattle.std.specs.Prelude.{ℕ, min, List, [], ◌∷◌, length}
use Rattle.octets.specs.Octets.{over, zeros, same}
use Rattle.published.specs.Tally.{counted}
use Rattle.published.specs.declared.tally.Tally.{Tally}
use Rattle.published.specs.declared.vector.Vector.{Vector}

abbrev pub found : List ℕ → List ℕ → List ℕ
found answer published = over answer (zeros (min (length published) 32))

module _ {I : Type 0} (answer : I → List ℕ) where
  abbrev pub tallied : List (Vector I) → Tally → Tally
  tallied [] t = t
  tallied (v ∷ vs) t = tallied vs (counted (same (found (answer v.input) v.published.now) v.published.now) t)
