-- The integrity algorithms: a row for each code, and the names.
--   integrity_table  the rows
--   integrity_fits   whether a row has this code
--   integrity_row    the first row that has it
--   integrity_name   the characters of a code's name, if it has one
use Rattle.std.specs.Prelude.{ℕ, Bool, List, [], ◌∷◌, codes, Option, ◌==◌}
use Rattle.codes.specs.Rows.{Name, first_fit, name_of}
use Rattle.codes.specs.declared.integrity.IntegrityRow.{IntegrityRow}

abbrev pub auth_hmac_sha1_96 : ℕ
auth_hmac_sha1_96 = 0x8003_0002

abbrev pub auth_hmac_sha2_256_128 : ℕ
auth_hmac_sha2_256_128 = 0x8003_000c

abbrev pub auth_hmac_sha2_512_256 : ℕ
auth_hmac_sha2_512_256 = 0x8003_000e

abbrev pub auth_combined : ℕ
auth_combined = 0xf003_0001

-- sizes in bytes
abbrev row : ℕ → ℕ → ℕ → IntegrityRow
row code check key = record { code = code; check = check; key = key }

-- code, check value, key
abbrev pub integrity_table : List IntegrityRow
integrity_table =
    row auth_hmac_sha1_96 12 20
    ∷ row auth_hmac_sha2_256_128 16 32
    ∷ row auth_hmac_sha2_512_256 32 64
    ∷ row auth_combined 0 0
    ∷ []

abbrev pub integrity_fits : ℕ → IntegrityRow → Bool
integrity_fits code row = row.code == code

abbrev pub integrity_row : ℕ → Option IntegrityRow
integrity_row code = first_fit (integrity_fits code) integrity_table

abbrev pub integrity_names : List Name
integrity_names =
    record { code = auth_hmac_sha1_96; name = codes "AUTH_HMAC_SHA1_96" }
    ∷ record { code = auth_hmac_sha2_256_128; name = codes "AUTH_HMAC_SHA2_256_128" }
    ∷ record { code = auth_hmac_sha2_512_256; name = codes "AUTH_HMAC_SHA2_512_256" }
    ∷ record { code = auth_combined; name = codes "AUTH_COMBINED" }
    ∷ []

abbrev pub integrity_name : ℕ → Option (List ℕ)
integrity_name code = name_of integrity_names code
