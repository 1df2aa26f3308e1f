-- The words before t are written.
use Rattle.std.proofs.Common.{◌≡◌, ◌+◌, ◌-◌}
use Rattle.sha.specs.Sha256.{extended}
use Rattle.chaining.specs.Turns.{turns}
use Rattle.sha.proofs.sha256.extend_by_eight.Given as goal

abbrev pub invariant-loop-t : goal.invariant-loop-t
invariant-loop-t l = l.w ≡ turns (λ k. extended (l.first + k)) (l.t - l.first) l.initial.w
