use Rattle.std.proofs.Common.{◌≡◌, ℕ, List, ◌+◌, ◌-◌, ◌<◌, ◌++◌, suc, ap, sym, ◌∙◌, arith}
use Rattle.published.specs.Inputs.{repeated}
use Rattle.published.proofs.input.MessageInput.answer.Goals as goal

-- what is left begins with one time xs, and is one time less then
one_less : (n i : ℕ) (xs : List ℕ) → i < n → repeated (n - i) xs ≡ xs ++ repeated (n - (i + 1)) xs
one_less n i xs below =
    let e : n - i ≡ suc (n - (i + 1)) = omega arith in
    ap (λ k. repeated k xs) e

pub loop-preserved : goal.loop-preserved
loop-preserved g c =
    let part = c.args.self.now.part.now in
    c.absorb.ensures.absorbed _
    ∙ ap (g.H.Hash.after c.loop.hash) (sym (one_less _ _ part c.loop-test.true))
    ∙ c.loop.invariant
