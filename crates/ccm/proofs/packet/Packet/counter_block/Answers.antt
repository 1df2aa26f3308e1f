use Rattle.std.proofs.Common.{ap, ◌∙◌, arith}
use Rattle.ccm.specs.Ccm.{counter_block}
use Rattle.ccm.specs.Parts.{headed}
use Rattle.ccm.proofs.packet.Packet.counter_block.Goals as goal

pub returns : goal.returns
unfolding counter_block
returns g c = record {
  the_counter_block = c.head_block.ensures.first_nonce_number ∙ ap (λ b. headed b c.args.self.now.nonce.now c.args.number) (omega arith);
}
