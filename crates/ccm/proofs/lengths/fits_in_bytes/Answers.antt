use Rattle.std.proofs.Common.{◌*◌, ◌^◌, arith}
use native.Mathlib.Nat.{one-le-pow}
use Rattle.ccm.proofs.Powers.{below_power}
use Rattle.ccm.proofs.lengths.fits_in_bytes.Goals as goal

pub returns-else-size-eq8 : goal.returns-else-size-eq8
returns-else-size-eq8 c =
    record { below_the_power = below_power c.args.text (2 ^ (8 * c.args.size)) (one-le-pow (8 * c.args.size) 2 (omega arith)) }
