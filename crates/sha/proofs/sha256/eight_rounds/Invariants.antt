-- As many rounds are done as pairs of a constant and a word were taken.
use Rattle.std.proofs.Common.{◌≡◌, length, get_or}
use Rattle.sha.specs.Sha256.{round}
use Rattle.chaining.specs.Turns.{turns}
use Rattle.sha.proofs.sha256.eight_rounds.Given as goal

abbrev pub invariant-loop-constant : goal.invariant-loop-constant
invariant-loop-constant l = l.v ≡ turns (λ t. round (get_or l.constants t 0) (get_or l.words t 0)) (length l.yielded) l.initial.v
