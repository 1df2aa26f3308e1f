use Rattle.std.proofs.Common.{rules, get_or}
use Rattle.chaining.specs.Words.{◌⊞◌}
use Rattle.chaining.proofs.FromFn.{from_fn_is}
use Rattle.chaining.proofs.words.sums.Goals as goal

pub returns : goal.returns
returns g c = record { place_by_place = from_fn_is _ (λ i. get_or c.args.v.now i 0 ⊞ get_or c.args.u.now i 0) _ (λ i y q called. search rules) c.from_fn.result g.row.N c.from_fn.ensures.items }
