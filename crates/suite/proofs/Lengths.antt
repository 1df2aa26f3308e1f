-- The tests of lengths and the facts that they stand for. Assumes nothing.
use Rattle.std.proofs.Common.{◌≡◌, ℕ, ◌%◌, ◌^◌, ◌<◌, true, arith}
use Rattle.std.proofs.lemmas.Bool.Decides.{nat_tests}
use Rattle.suite.specs.Meaning.{Given, lengths_fit, text_fits, sealing_fits, opening_fits}
use Rattle.suite.specs.Fits.{Lengths, Sealable, Openable}
use Rattle.suite.specs.declared.sizes.Sizes.{Sizes}
use Rattle.suite.specs.declared.triple.Triple.{Triple}

pub units : (z : Sizes) (n : ℕ) → text_fits z n ≡ true → n % z.unit ≡ 0
units z n e = grind (arith, nat_tests)

pub short : (z : Sizes) (n : ℕ) → text_fits z n ≡ true → n < 2 ^ 32
short z n e = grind (arith, nat_tests)

pub text-fits : (z : Sizes) (n : ℕ) → n % z.unit ≡ 0 → n < 2 ^ 32 → text_fits z n ≡ true
text-fits z n u s = grind (arith, nat_tests)

module _ (t : Triple) (z : Sizes) (g : Given) where
  pub lengths : lengths_fit t z g ≡ true → Lengths t z g
  lengths e = grind (arith, nat_tests)

  pub lengths-fit : Lengths t z g → lengths_fit t z g ≡ true
  lengths-fit l = grind (arith, nat_tests)

  module _ (n out work : ℕ) where
    pub sealable : sealing_fits t z g n out work ≡ true → Sealable t z g n out work
    sealable e = grind (arith, nat_tests)

    pub sealing-fits : Sealable t z g n out work → sealing_fits t z g n out work ≡ true
    sealing-fits s = grind (arith, nat_tests)

    pub openable : opening_fits t z g n out work ≡ true → Openable t z g n out work
    openable e = grind (arith, nat_tests)

    pub opening-fits : Openable t z g n out work → opening_fits t z g n out work ≡ true
    opening-fits o = grind (arith, nat_tests)
