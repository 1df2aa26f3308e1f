-- The four quarters, one after another, are all rounds.
use Rattle.std.proofs.Common.{refl, arith, rules}
use Rattle.chaining.specs.Turns.{turns}
use Rattle.sha.proofs.Quarters.{quarter_more}
use Rattle.sha.proofs.sha1.rounds.Goals as goal

pub returns : goal.returns
unfolding turns
returns c =
    let w = c.args.w.now in
    let v = c.args.v.now in
    let first = quarter_more w v 0 c.told-w (omega arith) refl (c.quarter_rounds.ensures.a_round_each_word 0 (search rules)) in
    let second = quarter_more w v 1 c.told-w (omega arith) first (c.quarter_rounds-2.ensures.a_round_each_word 1 (search rules)) in
    let third = quarter_more w v 2 c.told-w (omega arith) second (c.quarter_rounds-3.ensures.a_round_each_word 2 (search rules)) in
    record { all_rounds = quarter_more w v 3 c.told-w (omega arith) third (c.quarter_rounds-4.ensures.a_round_each_word 3 (search rules)) }
