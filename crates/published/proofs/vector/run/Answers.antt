use Rattle.std.proofs.Common.{◌≡◌, ℕ, min, ◌≤◌, length, take, ap, ◌∙◌, arith}
use Rattle.std.proofs.lemmas.List.{take-replicate}
use Rattle.octets.specs.Octets.{over, zeros}
use Rattle.published.proofs.Tallying.{one_counted}
use Rattle.published.proofs.vector.run.Goals as goal

-- the start of a fresh room
fresh : (n k : ℕ) → n ≡ k → k ≤ 32 → take n (zeros 32) ≡ zeros k
fresh n k e h = ap (λ m. take m (zeros 32)) e ∙ take-replicate k 32 0 h

pub loop-vector-preserved : goal.loop-vector-preserved
loop-vector-preserved g c =
    let v = c.vector-item.result in
    let answer = g.I.Input.answered g.H.Hash.digest g.H.Hash.block in
    let h : min (length v.published.now) 32 ≤ 32 = omega arith in
    let out = c.answer.ensures.answer_over_the_start ∙ ap (over (answer v.input)) (fresh _ _ c.min.ensures h) in
    one_counted answer _ _ v _ _ _ c.loop-vector-test.true c.vector-item.is out c.compare.ensures.counted_once
    ∙ c.loop-vector.invariant
