-- Each turn is the word of its place.
use Rattle.std.proofs.Common.{◌≡◌, ◌+◌, ◌-◌, set, ap, ◌∙◌, arith}
use Rattle.chaining.specs.Turns.{turns}
use Rattle.chaining.proofs.Turns.{turns_more}
use Rattle.sha.specs.Sha256.{extended}
use Rattle.sha.proofs.sha256.extend_by_eight.Goals as goal

pub loop-t-init : goal.loop-t-init
unfolding turns
loop-t-init c = ap (λ n. turns (λ k. extended (c.args.first + k)) n c.args.w.now) {x = 0} {y = c.args.first - c.args.first} (omega arith)

pub loop-t-preserved : goal.loop-t-preserved
loop-t-preserved c =
    let w = c.loop-t.w in
    let n = c.loop-t.t - c.args.first in
    let word : set w c.loop-t.t c.expanded.result ≡ extended (c.args.first + n) w =
    ap (set w c.loop-t.t) c.expanded.ensures.next_word ∙ ap (λ t. extended t w) (omega arith) in
    turns_more (λ k. extended (c.args.first + k)) n c.args.w.now c.loop-t.invariant word
    ∙ ap (λ k. turns (λ k. extended (c.args.first + k)) k c.args.w.now) (omega arith)
