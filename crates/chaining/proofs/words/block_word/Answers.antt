-- Past the block there is nothing to read.
use Rattle.chaining.proofs.Blocks.{no_word}
use Rattle.chaining.proofs.words.block_word.Goals as goal

pub returns-else-t-lt16 : goal.returns-else-t-lt16
returns-else-t-lt16 c = record { most_significant_byte_first = no_word c.args.block.now c.args.t c.told-block c.if-t-lt16.false }
