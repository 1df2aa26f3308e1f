use Rattle.std.proofs.Common.{sym, ◌∙◌}
use Rattle.octets.proofs.BigEndian.{big_endian-descending}
use Rattle.ccm.proofs.BlockBytes.{headed_is}
use Rattle.ccm.proofs.packet.Packet.head_block.Goals as goal

pub returns : goal.returns
returns g c =
    let packet = c.args.self.now in record {
      first_nonce_number =
          headed_is c.args.first c.args.number packet.nonce.now _ _ packet.nonce_at_least packet.nonce_at_most c.copy_from_slice-2.ensures.after
          (c.copy_from_slice.ensures.after ∙ (c.to_be_bytes.ensures ∙ sym (big_endian-descending 8 c.args.number)));
    }
