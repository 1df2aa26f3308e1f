-- The words before t are the schedule's.
use Rattle.std.proofs.Common.{◌≡◌, length, take}
use Rattle.sha.specs.Sha1.{scheduled}
use Rattle.chaining.specs.Turns.{built}
use Rattle.sha.proofs.sha1.schedule.Given as goal

abbrev pub invariant-loop-t : goal.invariant-loop-t
invariant-loop-t l = (length l.w ≡ 80) × (take l.t l.w ≡ built (scheduled l.block) l.t)
