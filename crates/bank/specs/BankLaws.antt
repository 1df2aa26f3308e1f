-- A bank keeps the laws of a suite, since for each triple it is the one of its two suites that answers. Assumes nothing.
use Rattle.std.specs.Prelude.{◌≡◌, Some, None, Option, refl}
use Rattle.std.proofs.Common.{◌∙◌}
use Rattle.std.specs.Option.{option_or}
use Rattle.suite.specs.Laws.{Served, SizesAreBounded, SealingAddsTheCheckValue, SealingGivesBytes, OpeningUndoesSealing, WhatOpensWasSealed, MismatchWhenNoTextSeals}
use Rattle.suite.specs.Meaning.{Given, Meaning}
use Rattle.suite.specs.declared.Sizes.{Sizes}
use Rattle.suite.specs.declared.Triple.{Triple}
use Rattle.bank.specs.Bank.{answering, bank_serves, bank}

module _ (a b : Meaning) where
  -- what both keep, the one that answers keeps
  kept : (law : Meaning → Type 0) → law a → law b → (told : Option Sizes) → law (answering told a b)
  kept law la lb (Some z) = la
  kept law la lb None = lb

  serves_by : (t : Triple) (told : Option Sizes) → a.serves t ≡ told → (answering told a b).serves t ≡ option_or told (b.serves t)
  serves_by t (Some z) e = e
  serves_by t None e = refl

  -- the bank serves what the one that answers serves
  serves : (t : Triple) → (answering (a.serves t) a b).serves t ≡ bank_serves a b t
  serves t = serves_by t (a.serves t) refl

  abbrev served : (t : Triple) (g : Given) → Served (bank a b) t g → Served (answering (a.serves t) a b) t g
  served t g s = record { sizes = s.sizes; told = serves t ∙ s.told; fitting = s.fitting }

  pub sizes_are_bounded : SizesAreBounded a → SizesAreBounded b → SizesAreBounded (bank a b)
  sizes_are_bounded la lb t z told = kept SizesAreBounded la lb (a.serves t) t z (serves t ∙ told)

  pub sealing_adds_the_check_value : SealingAddsTheCheckValue a → SealingAddsTheCheckValue b → SealingAddsTheCheckValue (bank a b)
  sealing_adds_the_check_value la lb t z g x told = kept SealingAddsTheCheckValue la lb (a.serves t) t z g x (serves t ∙ told)

  pub sealing-gives-bytes : SealingGivesBytes a → SealingGivesBytes b → SealingGivesBytes (bank a b)
  sealing-gives-bytes la lb t g s = kept SealingGivesBytes la lb (a.serves t) t g (served t g s)

  pub opening-undoes-sealing : OpeningUndoesSealing a → OpeningUndoesSealing b → OpeningUndoesSealing (bank a b)
  opening-undoes-sealing la lb t g s = kept OpeningUndoesSealing la lb (a.serves t) t g (served t g s)

  pub what_opens_was_sealed : WhatOpensWasSealed a → WhatOpensWasSealed b → WhatOpensWasSealed (bank a b)
  what_opens_was_sealed la lb t g s = kept WhatOpensWasSealed la lb (a.serves t) t g (served t g s)

  pub mismatch_when_no_text_seals : MismatchWhenNoTextSeals a → MismatchWhenNoTextSeals b → MismatchWhenNoTextSeals (bank a b)
  mismatch_when_no_text_seals la lb t g s = kept MismatchWhenNoTextSeals la lb (a.serves t) t g (served t g s)
