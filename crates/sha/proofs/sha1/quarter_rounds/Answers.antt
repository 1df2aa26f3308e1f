-- Each turn is a round of the quarter, with the next word.
use Rattle.std.proofs.Common.{refl}
use Rattle.chaining.specs.Turns.{turns}
use Rattle.chaining.proofs.Turns.{turns_more}
use Rattle.sha.proofs.sha1.quarter_rounds.Goals as goal

pub loop-word-init : goal.loop-word-init
unfolding turns
loop-word-init g c = (c.requires.callable, λ quarter is. refl)

pub loop-word-preserved : goal.loop-word-preserved
loop-word-preserved g c = (
  c.loop-word.invariant.0,
  λ quarter is. turns_more _ _ _ (c.loop-word.invariant.1 quarter is) (c.round.ensures.one_round quarter (is.0 _ _ _ _ c.mixed.ensures) is.1),
)
