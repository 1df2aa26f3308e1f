use Rattle.std.proofs.Common.{refl, ◌∙◌, sym, rules}
use Rattle.ccm.proofs.BlockBytes.{associated-block, associated-rest}
use Rattle.ccm.proofs.blocks.associated_block.Goals as goal

pub returns : goal.returns
returns c =
    let n = c.min.result in
    let k = c.write_length-before.result in
    let aad = c.args.aad.now in
    let counted = c.write_length-before.ensures.bytes_counted in record {
      first_block_then_zeros =
          associated-block k n _ aad _ _ _ counted (search rules) c.split_at.ensures.front refl
          c.write_length-before.ensures.length_then_old c.copy_from_slice.ensures.after;
      the_rest_is_left = associated-rest n k aad counted (search rules) ∙ sym c.split_at.ensures.back;
    }
