-- The rounds with the words before this one are done.
use Rattle.std.proofs.Common.{◌≡◌, ℕ, get_or}
use Rattle.chaining.specs.Turns.{turns}
use Rattle.sha.specs.Sha1.{IsQuarter, round}
use Rattle.sha.proofs.sha1.quarter_rounds.Given as goal

abbrev pub invariant-loop-word : goal.invariant-loop-word
invariant-loop-word g l =
    goal.F-IsAlwaysCallable g l.mixed
    × ((quarter : ℕ) → IsQuarter quarter (goal.F-post g l.mixed) l.constant → l.v ≡ turns (λ t. round quarter (get_or l.words t 0)) l.word-index l.initial.v)
