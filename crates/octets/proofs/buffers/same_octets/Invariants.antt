use Rattle.std.proofs.Common.{◌≡◌, eqb, length, take}
use Rattle.octets.specs.Octets.{same}
use Rattle.octets.proofs.buffers.same_octets.Given as goal

abbrev pub invariant-loop-x : goal.invariant-loop-x
invariant-loop-x l = same (take (length l.yielded) l.a) (take (length l.yielded) l.b) ≡ eqb l.difference 0
