-- A cipher paired with an integrity algorithm: the cipher's output, then the check value over head, vector and that output.
--   both         the sizes of a cipher and an integrity algorithm together
--   paired       the sizes of the pair, where both are served
--   check_value  the check value over an enciphered text
--   pairing      what the pair means as a suite
use Rattle.std.specs.Prelude.{ℕ, ◌-◌, cond, List, ◌++◌, length, take, drop, Some, None, Option}
use Rattle.octets.specs.Octets.{same}
use Rattle.suite.specs.Cipher.{CipherMeaning}
use Rattle.suite.specs.Integrity.{IntegrityMeaning, checked}
use Rattle.suite.specs.Meaning.{Given, Meaning, check_size}
use Rattle.suite.specs.declared.CipherSizes.{CipherSizes}
use Rattle.suite.specs.declared.IntegritySizes.{IntegritySizes}
use Rattle.suite.specs.declared.Sizes.{Sizes}
use Rattle.suite.specs.declared.Triple.{Triple}

abbrev pub both : CipherSizes → IntegritySizes → Sizes
both c i = record {
  integrity = i.key;
  salt = 0;
  vector = c.vector;
  check = i.check;
  unit = c.unit;
  encrypts = c.encrypts;
}

abbrev pub paired : Option CipherSizes → Option IntegritySizes → Option Sizes
paired None None = None
paired None (Some i) = None
paired (Some c) None = None
paired (Some c) (Some i) = Some (both c i)

module _ (c : CipherMeaning) (i : IntegrityMeaning) where
  abbrev pub pair_serves : Triple → Option Sizes
  pair_serves t = paired (c.serves t.encryption t.key) (i.serves t.integrity)

  abbrev pub check_value : Triple → Given → List ℕ → List ℕ
  check_value t g e = i.value t.integrity g.integrity (checked g.head g.vector e)

  abbrev pub pair_sealed : Triple → Given → List ℕ → List ℕ
  pair_sealed t g x = c.enciphered g.key g.vector x ++ check_value t g (c.enciphered g.key g.vector x)

  -- the enciphered part of n bytes, if the check value behind it is right
  abbrev pub opened_at : ℕ → Triple → Given → List ℕ → Option (List ℕ)
  opened_at n t g y = cond (same (drop n y) (check_value t g (take n y))) (Some (c.deciphered g.key g.vector (take n y))) None

  abbrev pub pair_opened : Triple → Given → List ℕ → Option (List ℕ)
  pair_opened t g y = opened_at (length y - check_size (pair_serves t)) t g y

abbrev pub pairing : CipherMeaning → IntegrityMeaning → Meaning
pairing c i = record { serves = pair_serves c i; sealed = pair_sealed c i; opened = pair_opened c i }
