use Rattle.std.proofs.Common.{◌≡◌}
use Rattle.std.specs.Slice.Iter.{chunks_rest, chunks_size}
use Rattle.ccm.specs.Parts.{taken_in}
use Rattle.ccm.proofs.packet.Packet.take_in.Given as goal

-- the parts that are left give the rest
abbrev pub invariant-loop-part : goal.invariant-loop-part
invariant-loop-part g l =
    let e = g.B.BlockCipher.forward l.self.schedule.now in record {
      blocks : chunks_size l.part-iterator ≡ 16;
      rest : taken_in e l.value (chunks_rest l.part-iterator) ≡ taken_in e l.initial.value l.bytes;
    }
