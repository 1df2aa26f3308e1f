use Rattle.std.proofs.Common.{◌≡◌, take}
use Rattle.octets.specs.Octets.{over}
use Rattle.chaining.specs.Words.{word_bytes}
use Rattle.chaining.proofs.words.write_words.Given as goal

abbrev pub invariant-loop-i : goal.invariant-loop-i
invariant-loop-i l = l.out ≡ over (word_bytes (take l.i l.words)) l.initial.out
