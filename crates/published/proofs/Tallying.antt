-- Counting one vector after another.
use Rattle.std.proofs.Common.{◌≡◌, ℕ, ◌+◌, ◌<◌, List, ◌∷◌, drop, length, get_or, ap, sym, ◌∙◌}
use Rattle.std.proofs.lemmas.List.{at_drop_more}
use Rattle.octets.specs.Octets.{same}
use Rattle.published.specs.Tally.{counted}
use Rattle.published.specs.Vectors.{found, tallied}
use Rattle.published.specs.declared.tally.Tally.{Tally}
use Rattle.published.specs.declared.vector.Vector.{Vector}

-- once the vector at i is counted, those behind it are left
pub one_counted : {I : Type 0} (answer : I → List ℕ) (vs : List (Vector I)) (i : ℕ) (v : Vector I) (t after : Tally) (out : List ℕ)
    → i < length vs → v ≡ get_or vs i v → out ≡ found (answer v.input) v.published.now → after ≡ counted (same out v.published.now) t
    → tallied answer (drop (i + 1) vs) after ≡ tallied answer (drop i vs) t
one_counted answer vs i v t after out below there e counts =
    let left = drop (i + 1) vs in
    ap (tallied answer left) (counts ∙ ap (λ o. counted (same o v.published.now) t) e)
    ∙ ap (λ w. tallied answer (w ∷ left) t) there
    ∙ sym (at_drop_more (λ ws. tallied answer ws t) vs i v below)
