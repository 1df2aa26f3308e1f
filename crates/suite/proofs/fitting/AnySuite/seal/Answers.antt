use Rattle.std.proofs.Common.{sym, ◌∙◌, rules}
use Rattle.suite.proofs.Guarded.{sealing_guarded}
use Rattle.suite.proofs.fitting.AnySuite.seal.Goals as goal

pub returns-clause-work_bytes_zero : goal.returns-clause-work_bytes_zero
returns-clause-work_bytes_zero g c =
    sealing_guarded (g.P.Fitting.meaning c.args.self.now) c.args.triple c.in_ok-sizes.sizes _ _ _ c.seal_fitting.new.work _ (search rules) c.drop-guard.ensures.work_bytes_zero (search rules)
    _ (sym c.fit_sealing.ensures.whether_it_may_be_sealed ∙ c.if-not-fit_sealing.false)
