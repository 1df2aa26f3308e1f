use Rattle.std.proofs.Common.{◌∙◌}
use Rattle.ccm.proofs.Chains.{taken_step, taken_all}
use Rattle.ccm.proofs.packet.Packet.take_in.Goals as goal

pub loop-part-preserved : goal.loop-part-preserved
loop-part-preserved g c =
    let step = c.in-Some.ensures.steps in
    let so = c.loop-part.invariant in record {
      blocks = step.0 ∙ so.blocks;
      rest =
          taken_step (g.B.BlockCipher.forward c.args.self.now.schedule.now) c.loop-part.value _ c.in-Some.part.now _ _ _ step.1.0
          (rw so.blocks at step.1.1) step.1.2 c.take_in_part.ensures.sum_enciphered so.rest;
    }

pub returns : goal.returns
returns g c = record {
  taken_in = taken_all (g.B.BlockCipher.forward c.args.self.now.schedule.now) c.loop-part.value _ _ c.in-None.ensures.steps.1.0 c.loop-part.invariant.rest;
}
