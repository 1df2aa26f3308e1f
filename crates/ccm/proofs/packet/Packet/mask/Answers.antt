use Rattle.std.proofs.Common.{◌∙◌, arith}
use Rattle.ccm.specs.Ccm.{counter_block}
use Rattle.ccm.proofs.BlockBytes.{length-counter_block}
use Rattle.ccm.proofs.Masks.{masked_step, masked_all, masked_is}
use Rattle.ccm.proofs.packet.Packet.mask.Goals as goal

pub loop-i-preserved : goal.loop-i-preserved
loop-i-preserved g c =
    let packet = c.args.self.now in
    let nonce = packet.nonce.now in
    let most = packet.nonce_at_most in
    masked_step (g.B.BlockCipher.forward packet.schedule.now) nonce
    (λ i. g.met.B.BlockCipher.forward_keeps_length packet.schedule.now (counter_block nonce i) (length-counter_block nonce i (omega arith)))
    c.loop-i.i c.min.result _ c.loop-i.text _ (omega arith) (omega arith) c.mask_part.ensures.part_masked c.loop-i.invariant

pub returns : goal.returns
returns g c =
    let packet = c.args.self.now in
    let e = g.B.BlockCipher.forward packet.schedule.now in record {
      text_masked = masked_all e packet.nonce.now c.loop-i.i _ c.loop-i.text _ (omega arith) c.loop-i.invariant ∙ masked_is e packet.nonce.now c.args.text.now;
    }
