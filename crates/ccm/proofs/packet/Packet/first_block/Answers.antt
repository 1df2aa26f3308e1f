use Rattle.std.proofs.Common.{ap, ◌∙◌}
use Rattle.ccm.specs.Ccm.{first_block, flags}
use Rattle.ccm.specs.Parts.{headed}
use Rattle.ccm.proofs.packet.Packet.first_block.Goals as goal

pub returns : goal.returns
unfolding first_block flags
returns g c = record {
  the_first_block =
      c.head_block.ensures.first_nonce_number ∙ ap (λ b. headed b c.args.self.now.nonce.now c.args.text) c.first_byte.ensures.as_flags;
}
