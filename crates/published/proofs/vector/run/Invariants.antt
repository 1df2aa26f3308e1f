use Rattle.std.proofs.Common.{◌≡◌, drop}
use Rattle.published.specs.Vectors.{tallied}
use Rattle.published.proofs.vector.run.Given as goal

-- counting what is left gives what counting all would have given at the start
abbrev pub invariant-loop-vector : goal.invariant-loop-vector
invariant-loop-vector g l =
    tallied (g.I.Input.answered g.H.Hash.digest g.H.Hash.block) (drop l.vector-index l.vectors) l.tally
    ≡ tallied (g.I.Input.answered g.H.Hash.digest g.H.Hash.block) l.vectors l.initial.tally
