-- The inverse S-box undoes the S-box, at the byte.
use Rattle.std.proofs.Common.{◌<◌, rules}
use Rattle.fips197.specs.Boxes.{inv_s_box}
use Rattle.fips197.proofs.SBoxes.{s_box-inv_s_box}
use Rattle.fips197.proofs.inv_s_box.inv_sub_byte.Goals as goal

pub returns-clause-undoes_the_box : goal.returns-clause-undoes_the_box
unfolding inv_s_box
returns-clause-undoes_the_box c = let byte : c.args.x < 256 = search rules in s_box-inv_s_box c.args.x byte
