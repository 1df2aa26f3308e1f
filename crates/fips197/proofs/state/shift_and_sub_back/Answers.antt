-- Each byte is the inverse S-box's for the byte that the shift brings there.
use Rattle.std.proofs.Common.{rules}
use Rattle.fips197.specs.Boxes.{inv_s_box}
use Rattle.fips197.specs.State.{inv_sub_bytes, inv_shift_rows}
use Rattle.fips197.proofs.state.shift_and_sub_back.Goals as goal

pub returns : goal.returns
unfolding inv_sub_bytes inv_shift_rows
returns c = record {
  shifted_then_substituted_back = c.replace_shifted.ensures.each_byte inv_s_box (record { gives = λ x r byte post. search rules });
}
