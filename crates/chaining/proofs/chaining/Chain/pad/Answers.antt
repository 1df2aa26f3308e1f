use Rattle.std.proofs.Common.{rules, ◌∙◌}
use Rattle.chaining.proofs.Padded.{digest-padded}
use Rattle.chaining.proofs.chaining.Chain.pad.Goals as goal

pub returns : goal.returns
returns g c =
    let bits = c.copy_from_slice.ensures.after ∙ c.to_be_bytes.ensures in search (rules, digest-padded)
