use Rattle.std.proofs.Common.{◌≡◌, take}
use Rattle.block.specs.Xor.{xored}
use Rattle.block.proofs.xor.xor_over.Given as goal

abbrev pub invariant-loop-i : goal.invariant-loop-i
invariant-loop-i l = l.out ≡ xored l.initial.out (take l.i l.b-items)
