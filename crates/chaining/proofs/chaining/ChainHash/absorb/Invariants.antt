use Rattle.std.proofs.Common.{◌≡◌, ℕ, List, ◌++◌, length}
use Rattle.chaining.specs.Chaining.{digest_after}
use Rattle.chaining.proofs.chaining.ChainHash.absorb.Given as goal

-- what is left gives the digest of all
abbrev pub invariant-loop-rest : goal.invariant-loop-rest
invariant-loop-rest g l =
    (x : List ℕ) → digest_after g.R.Rounds.turned g.R.Rounds.value l.self (l.rest ++ x) ≡ digest_after g.R.Rounds.turned g.R.Rounds.value l.initial.self (l.part ++ x)

abbrev pub decreases-loop-rest : goal.decreases-loop-rest
decreases-loop-rest g l = length l.rest
