-- Each byte is the S-box's for the byte that the shift brings there.
use Rattle.std.proofs.Common.{◌≡◌, length, ◌∙◌, rules}
use Rattle.fips197.specs.Boxes.{s_box}
use Rattle.fips197.proofs.States.{shift_rows-sub_bytes}
use Rattle.fips197.proofs.state.sub_and_shift.Goals as goal

pub returns : goal.returns
returns c =
    let s = c.args.s.now in
    let sized : length s ≡ 16 = search rules in record {
      substituted_then_shifted = c.replace_shifted.ensures.each_byte s_box (record { gives = λ x r byte post. search rules }) ∙ shift_rows-sub_bytes s sized;
    }
