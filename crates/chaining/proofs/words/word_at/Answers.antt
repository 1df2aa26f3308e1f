-- The four bytes of a chunk are those that write the word.
use Rattle.std.proofs.Common.{rules}
use Rattle.chaining.proofs.Blocks.{chunk_word}
use Rattle.chaining.proofs.words.word_at.Goals as goal

pub returns : goal.returns
returns c = search (rules, chunk_word)
