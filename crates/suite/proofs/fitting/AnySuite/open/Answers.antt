use Rattle.std.proofs.Common.{sym, ◌∙◌, rules}
use Rattle.suite.proofs.Guarded.{opening_guarded}
use Rattle.suite.proofs.fitting.AnySuite.open.Goals as goal

pub returns-clause-work_bytes_zero : goal.returns-clause-work_bytes_zero
returns-clause-work_bytes_zero g c =
    opening_guarded (g.P.Fitting.meaning c.args.self.now) c.args.triple c.in_ok-sizes.sizes _ _ _ c.open_fitting.new.work _ (search rules) c.drop-guard.ensures.work_bytes_zero (search rules)
    _ (sym c.fit_opening.ensures.whether_it_may_be_opened ∙ c.if-not-fit_opening.false)
