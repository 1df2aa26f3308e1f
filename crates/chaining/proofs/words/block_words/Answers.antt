use Rattle.std.proofs.Common.{rules}
use Rattle.chaining.specs.Words.{block_word}
use Rattle.chaining.proofs.FromFn.{from_fn_is}
use Rattle.chaining.proofs.words.block_words.Goals as goal

pub returns : goal.returns
returns c = record { each_of_its_place = from_fn_is _ (block_word c.args.block.now) _ (λ i y q called. search rules) c.from_fn.result 16 c.from_fn.ensures.items }
