use Rattle.std.proofs.Common.{◌≡◌, ◌+◌, ◌*◌, ◌++◌, take, drop}
use Rattle.ccm.specs.Parts.{masked_from}
use Rattle.ccm.proofs.packet.Packet.mask.Given as goal

-- what is masked, and what is left gives the rest
abbrev pub invariant-loop-i : goal.invariant-loop-i
invariant-loop-i g l =
    let e = g.B.BlockCipher.forward l.self.schedule.now in
    take (16 * l.i) l.text ++ masked_from e l.self.nonce.now (l.i + 1) (drop (16 * l.i) l.text) ≡ masked_from e l.self.nonce.now 1 l.initial.text
