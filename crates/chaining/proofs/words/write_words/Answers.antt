use Rattle.std.proofs.Common.{rules}
use Rattle.chaining.specs.WordBytes.{word_none, word_more}
use Rattle.chaining.proofs.words.write_words.Goals as goal

pub loop-i-init : goal.loop-i-init
loop-i-init c = search (rules, word_none)

pub loop-i-preserved : goal.loop-i-preserved
loop-i-preserved c = search (rules, word_more)
