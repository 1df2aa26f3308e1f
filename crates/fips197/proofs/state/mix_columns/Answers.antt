use Rattle.std.proofs.Common.{rules}
use Rattle.fips197.specs.State.{mixed, mix_columns}
use Rattle.fips197.proofs.state.mix_columns.Goals as goal

pub returns : goal.returns
unfolding mix_columns
returns c = record { columns_mixed = c.mix_by.ensures.columns_mixed mixed (record { gives = λ x y z w r bx by' bz bw post. search rules }) }
