-- The rounds up to the key are done.
use Rattle.std.proofs.Common.{◌≡◌}
use Rattle.aes.specs.Cipher.{rounds_to}
use Rattle.aes.proofs.rounds.encipher.Given as goal

abbrev pub invariant-loop-key : goal.invariant-loop-key
invariant-loop-key l = l.s ≡ rounds_to l.schedule l.key-index l.initial.s
