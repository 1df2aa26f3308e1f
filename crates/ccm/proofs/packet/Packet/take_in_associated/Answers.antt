use Rattle.std.proofs.Common.{sym, ap, ◌∙◌, rules}
use Rattle.ccm.specs.Parts.{taken_in}
use Rattle.ccm.proofs.BlockBytes.{nothing-associated, something_associated}
use Rattle.ccm.proofs.Chains.{taken_in-nil, taken_first}
use Rattle.ccm.proofs.packet.Packet.take_in_associated.Goals as goal

pub returns-then-is_empty : goal.returns-then-is_empty
returns-then-is_empty g c = record {
  taken_in =
      let e = g.B.BlockCipher.forward c.args.self.now.schedule.now in
      sym (taken_in-nil e c.args.value.now) ∙ ap (taken_in e c.args.value.now) (sym (nothing-associated c.args.self.now.aad.now (search rules)));
}

pub returns : goal.returns
returns g c = record {
  taken_in =
      c.take_in.ensures.taken_in
      ∙ taken_first (g.B.BlockCipher.forward c.args.self.now.schedule.now) c.args.value.now _ _ _ _
      (something_associated c.args.self.now.aad.now (search rules)) c.associated_block.ensures.first_block_then_zeros
      c.associated_block.ensures.the_rest_is_left c.take_in_part.ensures.sum_enciphered;
}
