-- Counting vectors.
--   counted pass t   the tally t with one vector more, which passed or failed; a count stays at its largest number
--   verdict t        an error where a vector failed
use Rattle.std.specs.Prelude.{ℕ, zero, suc, ◌+◌, ◌-◌, ◌^◌, min, Bool, true, false, Ok, Err, Result}
use Rattle.published.specs.declared.tally.Failed.{Failed}
use Rattle.published.specs.declared.tally.Tally.{Tally}

abbrev one_more : ℕ → ℕ
one_more n = min (n + 1) (2 ^ 32 - 1)

abbrev pub counted : Bool → Tally → Tally
counted true t = record t { passed = one_more t.passed }
counted false t = record t { failed = one_more t.failed }

abbrev verdict_of : ℕ → Result (Unit {0}) Failed
verdict_of zero = Ok tt
verdict_of (suc n) = Err (record {})

abbrev pub verdict : Tally → Result (Unit {0}) Failed
verdict t = verdict_of t.failed
