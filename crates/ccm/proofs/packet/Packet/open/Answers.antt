use Rattle.std.proofs.Common.{◌-◌, ◌++◌, length, take, drop, sym, ap, ◌∙◌, arith}
use Rattle.std.specs.Option.{ok_or}
use Rattle.std.proofs.lemmas.List.{length-take-le}
use Rattle.octets.specs.Octets.{same}
use Rattle.ccm.specs.Ccm.{masked, check_value}
use Rattle.ccm.specs.Calls.{counted, output_after}
use Rattle.ccm.specs.declared.fault.Fault.TheVariants.{Mismatch}
use Rattle.ccm.proofs.Sizes.{length-masked}
use Rattle.ccm.proofs.Steps.{opened_is, opened_counted, opened_left}
use Rattle.ccm.proofs.packet.Packet.open.Goals as goal

pub returns : goal.returns
returns g c =
    let packet = c.args.self.now in
    let e = g.B.BlockCipher.forward packet.schedule.now in
    let nonce = packet.nonce.now in
    let aad = packet.aad.now in
    let t = packet.check in
    let y = c.args.sealed.now in
    let out = c.args.out.now in
    let n = length y - t in
    let x = masked e nonce (take n y) in
    let b = same (drop n y) (check_value e t nonce aad x) in
    let size = length-take-le n y (omega arith) in
    let front = c.split_at.ensures.front in
    let back = c.split_at.ensures.back in record {
      text_counted =
          rw (front, back) at c.open_parts.ensures.refused_where_the_check_value_is_wrong
          ∙ (opened_counted b _ x (sym (length-masked e nonce (take n y))) ∙ ap (λ o. counted (ok_or o Mismatch)) (sym (opened_is e nonce aad t y)));
      text_or_zeros_then_old =
          ap (λ z. z ++ drop n out) (rw (front, back) at c.open_parts.ensures.text_or_zeros)
          ∙ (opened_left b n _ x out (length-masked e nonce (take n y) ∙ size) size c.requires.room
          ∙ ap (λ o. output_after (ok_or o Mismatch) n out) (sym (opened_is e nonce aad t y)));
    }
