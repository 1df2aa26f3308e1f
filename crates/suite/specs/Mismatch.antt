-- "Mismatch exactly when no text seals" follows from the two laws of sealing and opening. Assumes nothing.
use Rattle.std.proofs.Common.{◌≡◌, ℕ, List, Some, None, Option, sym, refl, ap, ◌∙◌}
use Rattle.suite.specs.Meaning.{Given, Meaning}
use Rattle.suite.specs.Laws.{Served, Sealed, NoTextSealsTo, OpeningUndoesSealing, WhatOpensWasSealed, MismatchWhenNoTextSeals}
use Rattle.suite.specs.declared.triple.Triple.{Triple}

none_is_not_some : {X : Type 0} (x : X) → None ≡ Some x → ⊥
none_is_not_some x e = cc

module _ (m : Meaning) where
  unopened : (t : Triple) (g : Given) (s : Served m t g) (y : List ℕ) (o : Option (List ℕ))
      → m.opened t g y ≡ o → WhatOpensWasSealed m → Sealed s.sizes y → NoTextSealsTo m t g s.sizes y → o ≡ None
  unopened t g s y None e l h no' = refl
  unopened t g s y (Some x) e l h no' = let found = l t g s x y h e in absurd (no' x found.0 found.1)

  pub mismatch_when_no_text_seals : OpeningUndoesSealing m → WhatOpensWasSealed m → MismatchWhenNoTextSeals m
  mismatch_when_no_text_seals undoes sealed t g s y h = (
    (λ none x text e. none_is_not_some x (sym none ∙ (ap (m.opened t g) (sym e) ∙ undoes t g s x text))),
    λ no'. unopened t g s y (m.opened t g y) refl sealed h no',
  )
