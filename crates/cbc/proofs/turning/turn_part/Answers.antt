use Rattle.std.proofs.Common.{length, ap, ◌∙◌}
use Rattle.cbc.proofs.turning.turn_part.Goals as goal

pub returns-in-Some : goal.returns-in-Some
returns-in-Some g c =
    let block = c.in-Some.ensures.cases in record {
      block_turned = λ out next says.
          (says.leaves _ _ _ _ c.told-chain (ap length block.same ∙ c.requires.one_block) c.turn.ensures).block ∙ ap (out c.args.chain.now) block.same;
      next_chain = λ out next says.
          (says.leaves _ _ _ _ c.told-chain (ap length block.same ∙ c.requires.one_block) c.turn.ensures).chain ∙ ap (next c.args.chain.now) block.same;
    }
