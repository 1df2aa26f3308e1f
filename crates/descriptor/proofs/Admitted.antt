-- What the tests before making say, and what making comes to after them. Assumes nothing.
use Rattle.std.proofs.Common.{◌≡◌, ℕ, Bool, not, ◌&&◌, eqb, ltb, List, length, Some, Ok, ap, ◌∙◌}
use Rattle.std.proofs.lemmas.Bool.{and_parts, or_parts, eqb-true, ltb-false, not-false}
use Rattle.layout.specs.Refusals.{first_fit, judged}
use Rattle.layout.specs.declared.Form.{Form}
use Rattle.layout.proofs.Refusals.{passed_from_ok, judged-passed}
use Rattle.suite.specs.Meaning.{Meaning}
use Rattle.suite.specs.declared.Sizes.{Sizes}
use Rattle.descriptor.specs.Making.{Makeable, make_tests, keys_fit, made_bytes, making, making_by}
use Rattle.descriptor.specs.declared.making.Label.{Label}
use Rattle.descriptor.specs.declared.protection.Protection.{Protection}

pub makeable : (p : Protection) (form : Form) (z : Sizes) (s n out work : ℕ)
    → judged (first_fit (make_tests p form z s n out work)) (tt {0}) ≡ Ok (tt {0}) → Makeable p form z s n out work
makeable p form z s n out work e =
    let passed = (passed_from_ok (make_tests p form z s n out work) (tt {0}) (tt {0}) e).0 in
    let first = or_parts (ltb work 240) (not (keys_fit p z)) passed.0 in
    let keys = not-false (keys_fit p z) first.1 in
    let salt : Bool = eqb (length p.salt.now) z.salt in
    let integrity : Bool = eqb (length p.integrity.now) z.integrity in
    let a = and_parts (eqb (length p.key.now) p.triple.key) (salt && integrity) keys in
    let b = and_parts salt integrity a.1 in
    record {
      work_bytes = ltb-false _ _ first.0;
      key = eqb-true _ _ a.0;
      salt = eqb-true _ _ b.0;
      integrity = eqb-true _ _ b.1;
      vector = eqb-true _ _ (not-false _ passed.1.0);
      short = ltb-false _ _ passed.1.1.0;
      room = ltb-false _ _ passed.1.1.1.0;
    }

module _ (m : Meaning) (p : Protection) (l : Label) (vector xs out work : List ℕ) (z : Sizes) (served : m.serves p.triple ≡ Some z) where
  pub making_made : judged (first_fit (make_tests p l.form z (length vector) (length xs) (length out) (length work))) (tt {0}) ≡ Ok (tt {0})
      → making m p l vector xs out work ≡ Ok (made_bytes m p l vector xs out work z)
  making_made e =
      let tests = make_tests p l.form z (length vector) (length xs) (length out) (length work) in
      ap (making_by m p l vector xs out work) served ∙ judged-passed tests (made_bytes m p l vector xs out work z) (passed_from_ok tests (tt {0}) (tt {0}) e).0
