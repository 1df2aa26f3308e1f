-- Eight rounds are done for each pair of chunks that was taken.
use Rattle.std.proofs.Common.{◌≡◌, ◌*◌, length}
use Rattle.sha.specs.Sha256.{round_at}
use Rattle.chaining.specs.Turns.{turns}
use Rattle.sha.proofs.sha256.rounds.Given as goal

abbrev pub invariant-loop-constants : goal.invariant-loop-constants
invariant-loop-constants l = l.v ≡ turns (round_at l.w) (8 * length l.yielded) l.initial.v
