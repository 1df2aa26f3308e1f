-- What HMAC as an integrity algorithm serves has possible sizes. Assumes nothing.
use Rattle.std.specs.Prelude.{◌≡◌, ℕ, ◌≤◌, min, Bool, true, false, cond, ◌&&◌, List, ◌++◌, length, take, drop, Some, None, ◌==◌, refl}
use Rattle.std.proofs.Common.{sym, ap, ◌∙◌, arith, rules}
use Rattle.std.proofs.lemmas.List.{places, same_lists}
use Rattle.std.proofs.lemmas.Bool.{and_parts}
use Rattle.std.proofs.lemmas.Bool.Decides.{nat_tests}
use Rattle.octets.specs.Octets.{over}
use Rattle.suite.specs.declared.IntegritySizes.{IntegritySizes}
use Rattle.algorithms.specs.HmacIntegrity.{possible, hmac_serves}

-- the sizes told are the algorithm's own
pub record Terms (size : ℕ) (own z : IntegritySizes) : Type 0 where
  pub same_sizes : own ≡ z
  pub key : z.key ≤ 32
  pub some_check : 1 ≤ z.check
  pub check : z.check ≤ 32
  pub digest : z.check ≤ size

told : (size : ℕ) (b : Bool) (own z : IntegritySizes) → (b ≡ true → possible size own ≡ true) → cond b (Some own) None ≡ Some z → Terms size own z
told size false own z p e = cc
told size true own z p e =
    let is : own ≡ z = cc in
    let fits : possible size z ≡ true = ap (possible size) (sym is) ∙ p refl in
    record {
      same_sizes = is;
      key = grind (arith, nat_tests);
      some_check = grind (arith, nat_tests);
      check = grind (arith, nat_tests);
      digest = grind (arith, nat_tests);
    }

pub served : (digest : List ℕ → List ℕ) (block size own : ℕ) (y : IntegritySizes) (code : ℕ) (z : IntegritySizes)
    → hmac_serves digest block size own y code ≡ Some z → Terms size y z
served digest block size own y code z e =
    told size (code == own && possible size y) y z (λ t. (and_parts (code == own) (possible size y) t).1) e

-- the first k bytes of v, written through a part of the buffer that is no longer
pub over-front : (k n : ℕ) (v out : List ℕ) → n ≡ min k (length out) → over v (take n out) ++ drop n out ≡ over (take k v) out
over-front k n v out e = same_lists _ _ (search (rules, places)) (λ j d h. grind (arith, places))
