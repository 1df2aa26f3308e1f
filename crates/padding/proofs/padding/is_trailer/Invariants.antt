-- So far no byte differed exactly if the bytes so far are the padding bytes.
use Rattle.std.proofs.Common.{◌≡◌, eqb, take}
use Rattle.octets.specs.Octets.{same}
use Rattle.padding.specs.Padding.{ramp}
use Rattle.padding.proofs.padding.is_trailer.Given as goal

abbrev pub invariant-loop-i : goal.invariant-loop-i
invariant-loop-i l = same (take l.i l.byte-items) (ramp l.i) ≡ eqb l.difference 0
