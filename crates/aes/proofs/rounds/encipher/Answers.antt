-- Each turn is the next round.
use Rattle.std.proofs.Common.{arith, rules}
use Rattle.aes.proofs.RoundLoops.{rounds_to-none, rounds_to_more, ciphered}
use Rattle.aes.proofs.rounds.encipher.Goals as goal

pub loop-key-init : goal.loop-key-init
loop-key-init c = rounds_to-none _ _

pub loop-key-preserved : goal.loop-key-preserved
loop-key-preserved c =
    let keys = c.as_chunks.ensures in
    rounds_to_more c.args.schedule.now _ (record { chunks = keys.front; count = keys.front_len }) _ _ _ _ _ c.loop-key-test.true c.loop-key.invariant c.round.ensures.one_round

pub returns-after-loop-key : goal.returns-after-loop-key
returns-after-loop-key c =
    let keys = c.as_chunks.ensures in record {
      enciphered =
          ciphered c.args.schedule.now _ (record { chunks = keys.front; count = keys.front_len }) c.loop-key.key-index _ _ _ _ _
          c.in-len2-up.len_at_least (omega arith) c.add_round_key.ensures.round_key_added c.loop-key.invariant (search rules) c.final_round.ensures.last_round;
    }
