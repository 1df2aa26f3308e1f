-- The encryption algorithms: a row for each code with each of its key lengths, and the names.
--   encryption_table  the rows
--   encryption_fits   whether a row has this code and this length of the key
--   encryption_row    the first row that has them
--   encryption_name   the characters of a code's name, if it has one
use Rattle.std.specs.Prelude.{ℕ, Bool, ◌&&◌, List, [], ◌∷◌, codes, Option, ◌==◌}
use Rattle.codes.specs.Rows.{Name, first_fit, name_of}
use Rattle.codes.specs.declared.encryption.EncryptionRow.{EncryptionRow}

abbrev pub encr_null : ℕ
encr_null = 0x8001_000b

abbrev pub aes_cbc : ℕ
aes_cbc = 0x8001_000c

abbrev pub aes_ccm : ℕ
aes_ccm = 0x8001_0010

abbrev pub aes_gcm : ℕ
aes_gcm = 0x8001_0014

-- sizes in bytes; a check value of 0 bytes is the integrity algorithm's
abbrev row : ℕ → ℕ → ℕ → ℕ → ℕ → EncryptionRow
row code key salt vector check = record { code = code; key = key; salt = salt; vector = vector; check = check }

-- code, key, salt, vector, check value
abbrev pub encryption_table : List EncryptionRow
encryption_table =
    row encr_null 0 0 0 0
    ∷ row aes_cbc 16 0 16 0
    ∷ row aes_cbc 32 0 16 0
    ∷ row aes_ccm 16 3 8 16
    ∷ row aes_ccm 32 3 8 16
    ∷ row aes_gcm 16 4 8 16
    ∷ row aes_gcm 32 4 8 16
    ∷ []

abbrev pub encryption_fits : ℕ → ℕ → EncryptionRow → Bool
encryption_fits code key row = row.code == code && row.key == key

abbrev pub encryption_row : ℕ → ℕ → Option EncryptionRow
encryption_row code key = first_fit (encryption_fits code key) encryption_table

abbrev pub encryption_names : List Name
encryption_names =
    record { code = encr_null; name = codes "ENCR_NULL" }
    ∷ record { code = aes_cbc; name = codes "AES-CBC" }
    ∷ record { code = aes_ccm; name = codes "AES-CCM" }
    ∷ record { code = aes_gcm; name = codes "AES-GCM" }
    ∷ []

abbrev pub encryption_name : ℕ → Option (List ℕ)
encryption_name code = name_of encryption_names code
