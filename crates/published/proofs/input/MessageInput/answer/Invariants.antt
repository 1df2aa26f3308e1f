use Rattle.std.proofs.Common.{◌≡◌, ◌-◌}
use Rattle.published.specs.Inputs.{repeated}
use Rattle.published.proofs.input.MessageInput.answer.Given as goal

-- absorbing what is left would give the whole message's digest
abbrev pub invariant-loop : goal.invariant-loop
invariant-loop g l =
    g.H.Hash.after l.hash (repeated (l.end - l.counter) l.self.part.now)
    ≡ g.H.Hash.digest (repeated l.self.times l.self.part.now)
