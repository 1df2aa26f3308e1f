-- The key, and each turn one word more behind it.
use Rattle.std.proofs.Common.{◌≡◌, ◌+◌, ◌-◌, ◌*◌, ◌/◌, length, take, sym, arith}
use Rattle.std.proofs.lemmas.List.{length-take-le}
use Rattle.aes.specs.Expansion.{grown-none, grown_more, expanded-over}
use Rattle.aes.proofs.schedule.expand.Goals as goal

pub loop-word-init : goal.loop-word-init
loop-word-init c =
    let nk = length c.args.key.now / 4 in
    let none : nk - nk ≡ 0 = omega arith in
    rw none (grown-none (4 * nk) nk c.copy_over.new.out (omega arith))

pub loop-word-preserved : goal.loop-word-preserved
loop-word-preserved c =
    let nk = length c.args.key.now / 4 in
    let start = c.copy_over.new.out in
    let i = c.loop-word.word in
    let here : nk + (i - nk) ≡ i = omega arith in
    let next : i + 1 - nk ≡ i - nk + 1 = omega arith in
    let long = length-take-le (4 * nk) start (omega arith) in
    rw next (grown_more nk (i - nk) (take (4 * nk) start) start _ _ (omega arith) long (omega arith) c.loop-word.invariant (rw (sym here) at c.add_word.ensures.word_behind))

pub returns : goal.returns
returns c =
    let nk = length c.args.key.now / 4 in
    let end : c.loop-word.word ≡ 4 * (nk + 7) = omega arith in record {
      schedule_then_old =
          expanded-over c.args.key.now c.args.work.now c.copy_over.new.out _ c.requires.four_words c.requires.whole_words c.requires.room
          c.copy_over.ensures.bytes_then_old (rw end at c.loop-word.invariant);
    }
