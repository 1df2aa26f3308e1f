-- The rounds that are left give what all give.
use Rattle.std.proofs.Common.{◌≡◌, length, take}
use Rattle.std.specs.Slice.Iter.{iter_rest}
use Rattle.aes.specs.Cipher.{inv_rounds_from}
use Rattle.aes.proofs.rounds.decipher.Given as goal

abbrev pub invariant-loop-key : goal.invariant-loop-key
invariant-loop-key l =
    let left = iter_rest l.key-iterator.iter in
    let all = iter_rest l.initial.key-iterator.iter in record {
      front : left ≡ take (length left) all;
      rest : inv_rounds_from l.schedule (length left) l.s ≡ inv_rounds_from l.schedule (length all) l.initial.s;
    }
