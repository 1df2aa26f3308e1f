-- The sort of every encryption algorithm code.
--   named_codes      the codes that have a row in the table
--   within           whether a code is between two codes, both included
--   named, vendor_specific, restricted   whether a code is in the table, or in the range of that sort
--   sorted           the sort of a code
--   sort_name        the characters of a sort's name
--   NamedCode, VendorSpecificCode, RestrictedCode, ReservedCode   what a code of each sort is
--   ExactlyWhen      one fact holds where the other does, and nowhere else
use Rattle.std.specs.Prelude.{◌≡◌, ℕ, ◌≤◌, Bool, true, cond, ◌&&◌, List, map, codes, nat_le}
use Rattle.std.specs.Char.{char_set_contains}
use Rattle.codes.specs.Encryption.{encryption_table}
use Rattle.codes.specs.declared.encryption.EncryptionRow.{EncryptionRow}
use Rattle.codes.specs.declared.sort.Sort.{Sort}
use Rattle.codes.specs.declared.sort.Sort.TheVariants.{Named, VendorSpecific, Restricted, Reserved}

abbrev pub named_codes : List ℕ
named_codes = map (λ (row : EncryptionRow). row.code) encryption_table

abbrev pub within : ℕ → ℕ → ℕ → Bool
within first last code = nat_le first code && nat_le code last

abbrev pub named : ℕ → Bool
named code = char_set_contains named_codes code

abbrev pub vendor_specific : ℕ → Bool
vendor_specific code = within 0x8001_0400 0x8001_ffff code

abbrev pub restricted : ℕ → Bool
restricted code = within 0 0xffff code

abbrev pub sorted : ℕ → Sort
sorted code =
    cond (named code) Named
    (cond (vendor_specific code) VendorSpecific
    (cond (restricted code) Restricted
    Reserved))

abbrev pub sort_name : Sort → List ℕ
sort_name Named = codes "named"
sort_name VendorSpecific = codes "vendor specific"
sort_name Restricted = codes "restricted"
sort_name Reserved = codes "reserved"

abbrev pub NamedCode : ℕ → Type 0
NamedCode code = named code ≡ true

abbrev pub VendorSpecificCode : ℕ → Type 0
VendorSpecificCode code = (0x8001_0400 ≤ code) × (code ≤ 0x8001_ffff)

abbrev pub RestrictedCode : ℕ → Type 0
RestrictedCode code = (0 ≤ code) × (code ≤ 0xffff)

-- a code of none of the other sorts
abbrev pub ReservedCode : ℕ → Type 0
ReservedCode code = (NamedCode code → ⊥) × (VendorSpecificCode code → ⊥) × (RestrictedCode code → ⊥)

abbrev pub ExactlyWhen : Type 0 → Type 0 → Type 0
ExactlyWhen P Q = (P → Q) × (Q → P)
