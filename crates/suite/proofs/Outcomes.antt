-- What sealing and opening come to where the triple is served and all lengths fit. Assumes nothing.
use Rattle.std.proofs.Common.{◌≡◌, ℕ, ◌%◌, ◌≤◌, true, List, length, take, Some, None, Ok, Option, refl, arith}
use Rattle.std.proofs.lemmas.Bool.Decides.{nat_tests}
use Rattle.std.specs.Option.{ok_or}
use Rattle.octets.specs.Octets.{wiped}
use Rattle.suite.specs.Cipher.{CipherMeaning, ciphering}
use Rattle.suite.specs.Meaning.{Given, Meaning, sealing, opening, sealing_fits, opening_fits, work_after}
use Rattle.suite.specs.declared.cipher.CipherSizes.{CipherSizes}
use Rattle.suite.specs.declared.fault.Fault.TheVariants.{Mismatch}
use Rattle.suite.specs.declared.sizes.Sizes.{Sizes}
use Rattle.suite.specs.declared.triple.Triple.{Triple}

module _ (m : Meaning) (t : Triple) (z : Sizes) (g : Given) (served : m.serves t ≡ Some z) where
  pub sealing-served : (n : ℕ) (out work : List ℕ) → sealing_fits t z g n (length out) (length work) ≡ true
      → sealing m t g n out work ≡ Ok (m.sealed t g (take n out))
  sealing-served n out work fits =
      rw (served, fits)

  pub opening-served : (y out work : List ℕ) → opening_fits t z g (length y) (length out) (length work) ≡ true
      → opening m t g y out work ≡ ok_or (m.opened t g y) Mismatch
  opening-served y out work fits =
      rw (served, fits)

-- whether it opened or mismatched, the work bytes are zero
pub opening_work : (o : Option (List ℕ)) (work : List ℕ) → work_after (ok_or o Mismatch) work ≡ wiped 240 work
opening_work None work = refl
opening_work (Some x) work = refl

pub ciphering-served : (turned : List ℕ → List ℕ → List ℕ → List ℕ) (m : CipherMeaning) (code : ℕ) (z : CipherSizes)
    (key vector text work : List ℕ) → m.serves code (length key) ≡ Some z → length vector ≡ z.vector
    → length text % z.unit ≡ 0 → 240 ≤ length work → ciphering turned m code key vector text work ≡ Ok (turned key vector text)
ciphering-served turned m code z key vector text work served vector-fits units room =
    rw served (grind (arith, nat_tests))
