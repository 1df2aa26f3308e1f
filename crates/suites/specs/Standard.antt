-- The standard bank: what it serves, row by row.
--   hmac_sizes key check    the sizes of an integrity algorithm
--   null_hmac_sha2_256_128  what ENCR_NULL with AUTH_HMAC_SHA2_256_128 means as a suite of its own
--   Offer                   a triple that is served, and the sizes told of it
--   standard_offers         every offer of the bank
--   served_by offers t      the sizes told by the first offer that is of the triple t
--   standard_serves t       the sizes that the standard bank tells of t
--   agrees, all_agree       whether an offer, and whether every one, has the sizes of the code tables
use Rattle.std.specs.Prelude.{ℕ, ◌+◌, Bool, true, false, cond, ◌&&◌, List, [], ◌∷◌, Some, None, Option, ◌==◌}
use Rattle.algorithms.specs.HmacIntegrity.{hmac_integrity}
use Rattle.algorithms.specs.Null.{null_cipher}
use Rattle.codes.specs.Encryption.{encr_null, aes_cbc, aes_ccm, encryption_row}
use Rattle.codes.specs.Integrity.{auth_hmac_sha1_96, auth_hmac_sha2_256_128, auth_combined, integrity_row}
use Rattle.codes.specs.declared.EncryptionRow.{EncryptionRow}
use Rattle.codes.specs.declared.IntegrityRow.{IntegrityRow}
use Rattle.pairing.specs.Pairing.{pairing}
use Rattle.sha.specs.Digests.{sha256}
use Rattle.suite.specs.Meaning.{Meaning}
use Rattle.suite.specs.declared.IntegritySizes.{IntegritySizes}
use Rattle.suite.specs.declared.Sizes.{Sizes}
use Rattle.suite.specs.declared.Triple.{Triple}

abbrev pub hmac_sizes : ℕ → ℕ → IntegritySizes
hmac_sizes k c = record { key = k; check = c }

-- SHA-256 has blocks of 64 bytes and digests of 32
abbrev pub null_hmac_sha2_256_128 : Meaning
null_hmac_sha2_256_128 = pairing null_cipher (hmac_integrity sha256 64 32 auth_hmac_sha2_256_128 (hmac_sizes 32 16))

pub record Offer : Type 0 where
  pub encryption : ℕ
  pub key : ℕ
  pub integrity : ℕ
  pub sizes : Sizes

-- ENCR_NULL does not encrypt
abbrev clear : ℕ → ℕ → Sizes
clear k c = record { integrity = k; salt = 0; vector = 0; check = c; unit = 1; encrypts = false }

abbrev chained : ℕ → ℕ → Sizes
chained k c = record { integrity = k; salt = 0; vector = 16; check = c; unit = 16; encrypts = true }

abbrev combined : Sizes
combined = record { integrity = 0; salt = 3; vector = 8; check = 16; unit = 16; encrypts = true }

abbrev offer : ℕ → ℕ → ℕ → Sizes → Offer
offer e k i z = record { encryption = e; key = k; integrity = i; sizes = z }

-- encryption code, length of its key, integrity code, sizes
abbrev pub standard_offers : List Offer
standard_offers =
    offer encr_null 0 auth_hmac_sha1_96 (clear 20 12)
    ∷ offer encr_null 0 auth_hmac_sha2_256_128 (clear 32 16)
    ∷ offer aes_cbc 16 auth_hmac_sha1_96 (chained 20 12)
    ∷ offer aes_cbc 32 auth_hmac_sha1_96 (chained 20 12)
    ∷ offer aes_cbc 16 auth_hmac_sha2_256_128 (chained 32 16)
    ∷ offer aes_cbc 32 auth_hmac_sha2_256_128 (chained 32 16)
    ∷ offer aes_ccm 16 auth_combined combined
    ∷ offer aes_ccm 32 auth_combined combined
    ∷ []

abbrev pub offered : Offer → Triple → Bool
offered o t = t.encryption == o.encryption && (t.key == o.key && t.integrity == o.integrity)

abbrev pub served_by : List Offer → Triple → Option Sizes
served_by [] t = None
served_by (o ∷ os) t = cond (offered o t) (Some o.sizes) (served_by os t)

abbrev pub standard_serves : Triple → Option Sizes
standard_serves t = served_by standard_offers t

-- salt, vector and integrity key are those of the rows; the check value is that of the one row that has one
abbrev agree : Option EncryptionRow → Option IntegrityRow → Sizes → Bool
agree None i z = false
agree (Some e) None z = false
agree (Some e) (Some i) z =
    (z.salt == e.salt)
    && (z.vector == e.vector
    && (z.integrity == i.key
    && z.check == e.check + i.check))

abbrev pub agrees : Offer → Bool
agrees o = agree (encryption_row o.encryption o.key) (integrity_row o.integrity) o.sizes

abbrev pub all_agree : List Offer → Bool
all_agree [] = true
all_agree (o ∷ os) = agrees o && all_agree os
