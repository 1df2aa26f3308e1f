-- A bank of two suites: it serves the triples of both, and the first answers for a triple that both serve.
--   answering   the first suite where it serves the triple, else the second
--   bank        what the two mean as one suite
use Rattle.std.specs.Prelude.{ℕ, List, Some, None, Option}
use Rattle.std.specs.Option.{option_or}
use Rattle.suite.specs.Meaning.{Given, Meaning}
use Rattle.suite.specs.declared.Sizes.{Sizes}
use Rattle.suite.specs.declared.Triple.{Triple}

-- the first argument is what the first suite tells of the triple
abbrev pub answering : Option Sizes → Meaning → Meaning → Meaning
answering (Some z) a b = a
answering None a b = b

module _ (a b : Meaning) where
  abbrev pub bank_serves : Triple → Option Sizes
  bank_serves t = option_or (a.serves t) (b.serves t)

  abbrev pub bank_sealed : Triple → Given → List ℕ → List ℕ
  bank_sealed t g x = (answering (a.serves t) a b).sealed t g x

  abbrev pub bank_opened : Triple → Given → List ℕ → Option (List ℕ)
  bank_opened t g y = (answering (a.serves t) a b).opened t g y

abbrev pub bank : Meaning → Meaning → Meaning
bank a b = record { serves = bank_serves a b; sealed = bank_sealed a b; opened = bank_opened a b }
