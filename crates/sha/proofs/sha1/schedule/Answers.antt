-- The block's words, and then at each turn the word that the recurrence gives.
use Rattle.std.proofs.Common.{◌≤◌, ◌+◌, ◌∙◌, length-append, ap, arith, length-set}
use Rattle.std.proofs.lemmas.List.{take_at}
use Rattle.sha.specs.Sha1.{expanded}
use Rattle.sha.proofs.Schedules.{first_words, word_more, sha1_reads}
use Rattle.sha.proofs.sha1.schedule.Goals as goal

pub loop-t-init : goal.loop-t-init
loop-t-init c =
    let copied = c.copy_from_slice.ensures in (
      length-append c.copy_from_slice.new.self _ ∙ ap (λ k. k + 64) copied.len,
      take_at c.copy_from_slice.new.self _ 16 copied.len ∙ copied.after ∙ c.block_words.ensures.each_of_its_place ∙ first_words expanded c.args.block.now,
    )

pub loop-t-preserved : goal.loop-t-preserved
loop-t-preserved c =
    let w = c.loop-t.w in
    let t = c.loop-t.t in
    let so_far = c.loop-t.invariant in
    let above : 16 ≤ t = omega arith in
    (simp length-set so_far.0, word_more expanded c.args.block.now w t above (omega arith) (sha1_reads w t above) so_far.1 c.expanded.ensures.next_word)
