use Rattle.std.proofs.Common.{◌≡◌, take}
use Rattle.padding.specs.Padding.{ramp}
use Rattle.padding.proofs.padding.fill_trailer.Given as goal

abbrev pub invariant-loop-i : goal.invariant-loop-i
invariant-loop-i l = take l.i l.byte-items ≡ ramp l.i
