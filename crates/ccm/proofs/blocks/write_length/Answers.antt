use Rattle.std.proofs.Common.{length, sym, ap, ◌∙◌, arith}
use Rattle.octets.specs.Octets.{over}
use Rattle.octets.proofs.BigEndian.{big_endian-descending}
use Rattle.ccm.proofs.BlockBytes.{short-length, middle_length, long-length, written, written_behind}
use Rattle.ccm.proofs.blocks.write_length.Goals as goal

pub returns-then-count-lt-TWO_BYTES : goal.returns-then-count-lt-TWO_BYTES
returns-then-count-lt-TWO_BYTES c =
    let n = c.args.count in
    let is = short-length n c.requires.some c.if-count-lt-TWO_BYTES.true in
    let digits = c.copy_from_slice.ensures.after ∙ (c.to_be_bytes.ensures ∙ sym (big_endian-descending 2 n)) in record {
      at_most_ten = omega arith;
      bytes_counted = ap length (sym is);
      length_then_old = written 2 _ _ c.args.block.now (omega arith) (omega arith) (digits ∙ sym is);
    }

pub returns-then-count-lt-FOUR_BYTES : goal.returns-then-count-lt-FOUR_BYTES
returns-then-count-lt-FOUR_BYTES c =
    let n = c.args.count in
    let is = middle_length n c.if-count-lt-TWO_BYTES.false c.if-count-lt-FOUR_BYTES.true in
    let digits = c.copy_from_slice-then-count-lt-FOUR_BYTES-2.ensures.after ∙ (c.to_be_bytes-then-count-lt-FOUR_BYTES.ensures ∙ sym (big_endian-descending 4 n)) in record {
      at_most_ten = omega arith;
      bytes_counted = ap length (sym is);
      length_then_old =
          written_behind 0xff 0xfe 4 _ _ _ c.args.block.now c.copy_from_slice-then-count-lt-FOUR_BYTES.ensures.after (omega arith) (omega arith) digits
          ∙ ap (λ z. over z c.args.block.now) (sym is);
    }

pub returns-else-count-lt-FOUR_BYTES : goal.returns-else-count-lt-FOUR_BYTES
returns-else-count-lt-FOUR_BYTES c =
    let n = c.args.count in
    let is = long-length n c.if-count-lt-FOUR_BYTES.false in
    let digits = c.copy_from_slice-else-count-lt-FOUR_BYTES-2.ensures.after ∙ (c.to_be_bytes-else-count-lt-FOUR_BYTES.ensures ∙ sym (big_endian-descending 8 n)) in record {
      at_most_ten = omega arith;
      bytes_counted = ap length (sym is);
      length_then_old =
          written_behind 0xff 0xff 8 _ _ _ c.args.block.now c.copy_from_slice-else-count-lt-FOUR_BYTES.ensures.after (omega arith) (omega arith) digits
          ∙ ap (λ z. over z c.args.block.now) (sym is);
    }
