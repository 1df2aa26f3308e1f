-- Each byte is the S-box's for the next one round, and the first has the constant.
use Rattle.std.proofs.Common.{◌≡◌, length, rules}
use Rattle.aes.specs.Expansion.{turned_out}
use Rattle.aes.proofs.schedule.turn_word.Goals as goal

pub returns : goal.returns
returns c =
    let sized : length c.args.t.now ≡ 4 = search rules in
    record {
      turned_and_summed =
          turned_out c.args.t.now c.args.j sized c.sub_byte.ensures.of_the_table c.sub_byte-2.ensures.of_the_table
          c.sub_byte-3.ensures.of_the_table c.sub_byte-4.ensures.of_the_table c.round_constant.ensures.of_the_table;
    }
