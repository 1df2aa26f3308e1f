-- Each turn is the next round down.
use Rattle.std.proofs.Common.{rules}
use Rattle.aes.proofs.RoundLoops.{Keys, left_more, inv_rounds_from_more, inv_ciphered}
use Rattle.aes.proofs.rounds.decipher.Goals as goal

pub loop-key-preserved : goal.loop-key-preserved
loop-key-preserved c =
    let w = c.args.schedule.now in
    let keys = c.as_chunks.result.0.now in
    let all : Keys w keys = record { chunks = c.as_chunks.ensures.front; count = c.as_chunks.ensures.front_len } in
    let so = c.loop-key.invariant in
    let split = c.in-Some.ensures.steps in record {
      front = left_more _ _ _ _ split so.front;
      rest = inv_rounds_from_more w keys all _ (search rules) _ _ _ _ _ _ split so.front c.round_back.ensures.one_round_back so.rest;
    }

pub returns-in-None : goal.returns-in-None
returns-in-None c =
    let w = c.args.schedule.now in
    let keys = c.as_chunks.result.0.now in
    let all : Keys w keys = record { chunks = c.as_chunks.ensures.front; count = c.as_chunks.ensures.front_len } in record {
      deciphered =
          inv_ciphered w keys all _ (search rules) _ _ _ _ _ _ c.in-len2-up.len_at_least c.in-None.ensures.steps.0 (search rules) c.add_round_key.ensures.round_key_added
          c.loop-key.invariant.rest c.final_round_back.ensures.last_round_back;
    }
