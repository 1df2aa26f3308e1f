-- Each turn is the eight rounds of its chunks.
use Rattle.std.proofs.Common.{◌≡◌, ◌*◌, ◌/◌, ◌<◌, [], get_or, length, refl, sym, ap, ◌∙◌, rules, arith}
use Rattle.std.specs.Simd.{first_chunks}
use Rattle.std.proofs.lemmas.List.{length_push}
use Rattle.std.proofs.lemmas.Slice.Zip.{zip_turn}
use Rattle.chaining.specs.Turns.{turns}
use Rattle.chaining.proofs.Blocks.{chunk_at}
use Rattle.sha.proofs.Eights.{eight_more}
use Rattle.sha.specs.Sha256.{K, round_at}
use Rattle.sha.proofs.sha256.rounds.Goals as goal

pub loop-constants-init : goal.loop-constants-init
unfolding turns
loop-constants-init c = refl

pub loop-constants-preserved : goal.loop-constants-preserved
loop-constants-preserved c =
    let turn = zip_turn c.as_chunks.result.0.now c.as_chunks-2.result.0.now c.loop-constants.yielded c.into_iter-constants-iterator.result c.loop-constants.constants-iterator c.next.new.self c.next.result (search rules) (search rules) c.loop-constants.yielded_by (c.in-Some.constants, c.in-Some.words) c.in-Some.is c.next.ensures.steps in
    let n = length c.loop-constants.yielded in
    let standard = c.round_constants.ensures.of_the_standard in
    let cut : c.as_chunks.result.0.now ≡ first_chunks 8 8 K = c.as_chunks.ensures.front ∙ ap (λ ks. first_chunks 8 (length ks / 8) ks) standard in
    let inside : n < 8 = omega (arith, turn.0, ap length cut) in
    let of_K = turn.2 [] ∙ ap (λ cs. get_or cs n []) cut ∙ chunk_at 8 K 8 n [] inside in
    let of_w = turn.3 [] ∙ ap (λ cs. get_or cs n []) c.as_chunks-2.ensures.front ∙ chunk_at 8 c.args.w.now (length c.args.w.now / 8) n [] (omega arith) in
    eight_more c.args.w.now c.args.v.now _ _ n of_K of_w c.loop-constants.invariant c.eight_rounds.ensures.eight_turns
    ∙ ap (λ k. turns (round_at c.args.w.now) (8 * k) c.args.v.now) (sym (length_push c.loop-constants.yielded _))
