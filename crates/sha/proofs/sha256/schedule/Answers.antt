-- The block's words, and then eight more at each turn.
use Rattle.std.proofs.Common.{◌+◌, ◌∙◌, length-append, ap, sym, subst, refl, arith}
use Rattle.std.proofs.lemmas.List.{take_at}
use Rattle.sha.specs.Sha256.{expanded}
use Rattle.sha.proofs.Schedules.{first_words, Upto, further}
use Rattle.sha.proofs.sha256.schedule.Goals as goal

pub loop-first-init : goal.loop-first-init
loop-first-init c =
    let copied = c.copy_from_slice.ensures in
    record {
      in_eights = refl;
      within = omega arith;
      so_far = (length-append c.copy_from_slice.new.self _ ∙ ap (λ k. k + 48) copied.len, take_at c.copy_from_slice.new.self _ 16 copied.len ∙ copied.after ∙ c.block_words.ensures.each_of_its_place ∙ first_words expanded c.args.block.now);
    }

pub loop-first-preserved : goal.loop-first-preserved
loop-first-preserved c =
    let block = c.args.block.now in
    let m = c.loop-first.first in
    record {
      in_eights = omega arith;
      within = omega arith;
      so_far = subst (λ u. Upto block u (m + 8)) (sym c.extend_by_eight.ensures.eight_words) (further block c.loop-first.w m 8 (omega arith) (omega arith) c.loop-first.invariant.so_far);
    }
