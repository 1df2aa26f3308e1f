-- Each turn compares one padding byte; then come PAD LENGTH and MUST BE ZERO.
use Rattle.std.proofs.Common.{rules}
use Rattle.std.proofs.lemmas.List.{take_all}
use Rattle.padding.proofs.Trailer.{ramp-compared, trailer-compared}
use Rattle.padding.proofs.padding.is_trailer.Goals as goal

pub loop-i-preserved : goal.loop-i-preserved
loop-i-preserved c = search (rules, ramp-compared)

pub returns : goal.returns
returns c = search (rules, take_all, trailer-compared)
