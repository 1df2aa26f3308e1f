use Rattle.std.proofs.Common.{◌≡◌, ◌++◌, take, drop}
use Rattle.hmac.specs.Hmac.{padded}
use Rattle.hmac.proofs.hmac.pad_each.Given as goal

abbrev pub invariant-loop-b : goal.invariant-loop-b
invariant-loop-b l = l.bytes ≡ padded l.pad (take l.b-index l.initial.bytes) ++ drop l.b-index l.initial.bytes
