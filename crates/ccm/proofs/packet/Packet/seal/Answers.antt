use Rattle.std.proofs.Common.{take, arith, rules}
use Rattle.std.proofs.lemmas.List.{length-take-le}
use Rattle.ccm.proofs.Sizes.{length-check_value, length-sealed}
use Rattle.ccm.proofs.Steps.{sealed_is}
use Rattle.ccm.proofs.packet.Packet.seal.Goals as goal

pub returns : goal.returns
returns g c =
    let packet = c.args.self.now in
    let w = packet.schedule.now in
    let e = g.B.BlockCipher.forward w in
    let keeps = g.met.B.BlockCipher.forward_keeps_length w in
    let nonce = packet.nonce.now in
    let aad = packet.aad.now in
    let most = packet.nonce_at_most in
    let few = packet.check_at_most in
    let n = c.args.text in
    let text = take n c.args.out.now in
    let long = length-take-le n c.args.out.now (omega arith) in
    let all = length-sealed e keeps packet.check nonce aad text (omega arith) few in record {
      sealed_bytes_counted = omega arith;
      sealed_then_old =
          sealed_is e nonce aad packet.check n c.args.out.now _ _ _ (length-check_value e keeps packet.check nonce aad text (omega arith) few)
          c.requires.room (search rules) c.split_at_mut-front.ensures.back (search rules);
    }
