-- Either way the answer is below the unit, and the remainder, the padding and two bytes make one unit or two.
use Rattle.std.proofs.Common.{mod-lt, arith}
use Rattle.padding.proofs.Least.{pad_to_from_rest}
use Rattle.padding.proofs.padding.pad_to.Goals as goal

pub returns-then-left-lt2-clause-by_the_formula : goal.returns-then-left-lt2-clause-by_the_formula
returns-then-left-lt2-clause-by_the_formula c =
    let below = mod-lt c.args.n {m = c.args.unit} c.requires.a_unit in
    (pad_to_from_rest c.args.unit c.args.n c.requires.a_unit _ 2 (omega arith) (omega arith)).0

pub returns-else-left-lt2-clause-by_the_formula : goal.returns-else-left-lt2-clause-by_the_formula
returns-else-left-lt2-clause-by_the_formula c =
    let below = mod-lt c.args.n {m = c.args.unit} c.requires.a_unit in
    (pad_to_from_rest c.args.unit c.args.n c.requires.a_unit _ 1 (omega arith) (omega arith)).0
