use Rattle.std.proofs.Common.{refl, arith, rules}
use Rattle.cbc.proofs.Turns.{turning_more}
use Rattle.cbc.proofs.turning.turn_blocks.Goals as goal

pub loop-i-preserved : goal.loop-i-preserved
loop-i-preserved g c = record {
  turn_callable = c.loop-i.invariant.turn_callable;
  one_block = search rules;
  turning = λ out next says.
      turning_more out next _ _ _ _ _ _ _ _ _ (omega arith) (omega arith) refl (omega arith) (c.turn_part.ensures.block_turned out next says)
      (c.turn_part.ensures.next_chain out next says) (c.loop-i.invariant.turning out next says);
}
