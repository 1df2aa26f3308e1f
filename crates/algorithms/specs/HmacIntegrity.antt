-- HMAC over any hash as an integrity algorithm: under one code, the first bytes of the HMAC are the check value.
--   possible         whether the key and check value sizes are within bounds, and the check value no longer than a digest
--   hmac_integrity   what it means as an integrity algorithm
use Rattle.std.specs.Prelude.{ℕ, Bool, cond, ◌&&◌, List, take, Some, None, Option, ◌==◌, nat_le}
use Rattle.hmac.specs.Hmac.{hmac}
use Rattle.suite.specs.Integrity.{IntegrityMeaning}
use Rattle.suite.specs.declared.IntegritySizes.{IntegritySizes}

-- size is the digest's
abbrev pub possible : ℕ → IntegritySizes → Bool
possible size z = nat_le z.key 32 && (nat_le 1 z.check && (nat_le z.check 32 && nat_le z.check size))

module _ (digest : List ℕ → List ℕ) (block size : ℕ) where
  abbrev pub hmac_serves : ℕ → IntegritySizes → ℕ → Option IntegritySizes
  hmac_serves own z code = cond (code == own && possible size z) (Some z) None

  abbrev pub hmac_integrity : ℕ → IntegritySizes → IntegrityMeaning
  hmac_integrity own z = record { serves = hmac_serves own z; value = λ code key message. take z.check (hmac digest block key message) }
