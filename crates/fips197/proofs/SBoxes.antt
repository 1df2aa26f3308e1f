-- The S-box is the affine transformation of the inverse, and the inverse S-box undoes it. Assumes nothing.
use Rattle.std.proofs.Common.{◌≡◌, ℕ, ◌<◌, cond, eqb, refl}
use Rattle.fips197.specs.Field.{xtime, ◌•◌, powers, inverse}
use Rattle.fips197.specs.Boxes.{affine, s_box, inv_s_box}
use Rattle.fips197.proofs.Tests.{same-below, bounded-below}

pub s_box_rule : (x : ℕ) → x < 256 → s_box x ≡ affine (inverse x)
unfolding xtime ◌•◌ powers inverse affine s_box
s_box_rule = same-below s_box (λ x. affine (inverse x)) 256 refl

-- a byte times its inverse is 1, but zero's
pub inverse_rule : (x : ℕ) → x < 256 → x • inverse x ≡ cond (eqb x 0) 0 1
unfolding xtime ◌•◌ powers inverse
inverse_rule = same-below (λ x. x • inverse x) (λ x. cond (eqb x 0) 0 1) 256 refl

pub s_box-lt : (x : ℕ) → x < 256 → s_box x < 256
unfolding s_box
s_box-lt = bounded-below s_box 256 256 refl

pub inv_s_box-lt : (x : ℕ) → x < 256 → inv_s_box x < 256
unfolding inv_s_box
inv_s_box-lt = bounded-below inv_s_box 256 256 refl

pub inv_s_box-s_box : (x : ℕ) → x < 256 → inv_s_box (s_box x) ≡ x
unfolding s_box inv_s_box
inv_s_box-s_box = same-below (λ x. inv_s_box (s_box x)) (λ x. x) 256 refl

pub s_box-inv_s_box : (x : ℕ) → x < 256 → s_box (inv_s_box x) ≡ x
unfolding s_box inv_s_box
s_box-inv_s_box = same-below (λ x. s_box (inv_s_box x)) (λ x. x) 256 refl
