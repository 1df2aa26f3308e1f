-- A call is served exactly if none of its tests fits.
use Rattle.std.proofs.Common.{◌≡◌, ℕ, Bool, true, false, cond, List, [], ◌∷◌, Some, Ok, sym, refl, ap, ◌∙◌, ⊎_elim, arith}
use Rattle.std.specs.List.{AllByRecursion}
use Rattle.std.proofs.lemmas.Bool.{cases_Bool}
use Rattle.layout.specs.Refusals.{Test, first_fit, judged}

-- no test fits
abbrev pub Passed : {F : Type 0} → List (Test F) → Type 0
Passed tests = AllByRecursion (λ test. test.fits ≡ false) tests

module _ {X F : Type 0} where
  one_more : (test : Test F) (tests : List (Test F)) (x : X) (b : Bool) → test.fits ≡ b → judged (first_fit (test ∷ tests)) x ≡ judged (cond b (Some test.fault) (first_fit tests)) x
  one_more test tests x b e = ap (λ t. judged (cond t (Some test.fault) (first_fit tests)) x) e

  pub judged-passed : (tests : List (Test F)) (x : X) → Passed tests → judged (first_fit tests) x ≡ Ok x
  judged-passed [] x h = refl
  judged-passed (test ∷ tests) x h = one_more test tests x false h.0 ∙ judged-passed tests x h.1

  pub passed_from_ok : (tests : List (Test F)) (x y : X) → judged (first_fit tests) x ≡ Ok y → Passed tests × (y ≡ x)
  passed_from_ok [] x y e = (tt, cc)
  passed_from_ok (test ∷ tests) x y e =
      ⊎_elim
      (λ fits. absurd (let r = one_more test tests x true fits in let z : ◌≡◌ {A = ℕ} 0 1 = cc in omega arith))
      (λ not. let rest = passed_from_ok tests x y (sym (one_more test tests x false not) ∙ e) in ((not, rest.0), rest.1))
      (cases_Bool test.fits)
