-- Columns that are prepared and then mixed are mixed back.
use Rattle.std.proofs.Common.{ap, ◌∙◌, rules}
use Rattle.fips197.specs.State.{mix_columns}
use Rattle.fips197.proofs.Products.{prepared}
use Rattle.fips197.proofs.States.{mix_columns-prepared}
use Rattle.fips197.proofs.state.mix_columns_back.Goals as goal

pub returns : goal.returns
returns c =
    let made = c.mix_by.ensures.columns_mixed (λ x y z w. prepared x z) (record { gives = λ x y z w r bx by' bz bw post. search rules }) in
    record { columns_mixed_back = c.mix_columns.ensures.columns_mixed ∙ (ap mix_columns made ∙ mix_columns-prepared c.args.s.now) }
