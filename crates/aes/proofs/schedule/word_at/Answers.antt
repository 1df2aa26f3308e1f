-- The four bytes read are the word's.
use Rattle.std.proofs.Common.{◌*◌, arith}
use Rattle.aes.specs.Schedule.{word}
use Rattle.aes.specs.Expansion.{four_at}
use Rattle.aes.proofs.schedule.word_at.Goals as goal

pub returns : goal.returns
unfolding word
returns c = record { the_word = four_at c.args.w.now (4 * c.args.i) (omega arith) }
