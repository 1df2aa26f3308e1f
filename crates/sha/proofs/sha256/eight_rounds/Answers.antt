-- Each turn is the round of its place.
use Rattle.std.proofs.Common.{◌≡◌, ℕ, get_or, length, refl, sym, ap, ◌∙◌, rules}
use Rattle.std.proofs.lemmas.List.{length_push}
use Rattle.std.proofs.lemmas.Slice.Zip.{zip_turn}
use Rattle.chaining.specs.Turns.{turns}
use Rattle.chaining.proofs.Turns.{turns_more}
use Rattle.sha.specs.Sha256.{round}
use Rattle.sha.proofs.sha256.eight_rounds.Goals as goal

pub loop-constant-init : goal.loop-constant-init
unfolding turns
loop-constant-init c = refl

pub loop-constant-preserved : goal.loop-constant-preserved
loop-constant-preserved c =
    let turn = zip_turn c.args.constants.now c.args.words.now c.loop-constant.yielded c.into_iter-constant-iterator.result c.loop-constant.constant-iterator c.next.new.self c.next.result (search rules) (search rules) c.loop-constant.yielded_by (c.in-Some.constant, c.in-Some.word) c.in-Some.is c.next.ensures.steps in
    let n = length c.loop-constant.yielded in
    let step = λ (t : ℕ). round (get_or c.args.constants.now t 0) (get_or c.args.words.now t 0) in
    let here : c.round.new.v ≡ step n c.loop-constant.v =
    c.round.ensures.one_round ∙ ap (λ k. round k c.in-Some.word.now c.loop-constant.v) (turn.2 0) ∙ ap (λ w. round (get_or c.args.constants.now n 0) w c.loop-constant.v) (turn.3 0) in
    turns_more step _ _ c.loop-constant.invariant here ∙ ap (λ k. turns step k c.args.v.now) (sym (length_push c.loop-constant.yielded _))
