-- Worked lengths of descriptors, which a reader can check by hand.
--   Row             count data bytes, in this form and under a suite with these sizes, make a descriptor of whole bytes that begins with lead
--   rows            the table
--   stands row      whether the definitions give what the row says
--   WorkedLengths   every row of the table stands
use Rattle.std.specs.Prelude.{◌≡◌, ℕ, Bool, true, false, ◌&&◌, List, [], ◌∷◌, ◌==◌}
use Rattle.octets.specs.Octets.{same}
use Rattle.layout.specs.declared.Form.{Form}
use Rattle.layout.specs.declared.Form.TheVariants.{Long, Short}
use Rattle.suite.specs.declared.Sizes.{Sizes}
use Rattle.descriptor.specs.Making.{made_length, lead_of}

-- no encryption, no vector, a check value of 16 bytes
abbrev in_clear : Sizes
in_clear = record { integrity = 32; salt = 0; vector = 0; check = 16; unit = 1; encrypts = false }

-- encryption in units of 16 bytes, a vector of s bytes, a check value of 16
abbrev encrypted : ℕ → Sizes
encrypted s = record { integrity = 32; salt = 0; vector = s; check = 16; unit = 16; encrypts = true }

pub record Row : Type 0 where
  pub form : Form
  pub sizes : Sizes
  pub count : ℕ
  pub whole : ℕ
  pub lead : List ℕ

abbrev row : Form → Sizes → ℕ → ℕ → List ℕ → Row
row f z n w l = record { form = f; sizes = z; count = n; whole = w; lead = l }

abbrev pub rows : List Row
rows =
    row Long in_clear 5 37 (0x00 ∷ 0x23 ∷ 0 ∷ 0 ∷ [])
    ∷ row Short in_clear 5 33 []
    ∷ row Long (encrypted 16) 5 64 (0x00 ∷ 0x3e ∷ 0 ∷ 0 ∷ [])
    ∷ row Short (encrypted 8) 14 52 []
    ∷ row Long in_clear 65503 65535 (0xff ∷ 0xfd ∷ 0 ∷ 0 ∷ [])
    ∷ []

abbrev pub stands : Row → Bool
stands r = made_length r.form r.sizes r.count == r.whole && same (lead_of r.form r.whole) r.lead

abbrev all_stand : List Row → Bool
all_stand [] = true
all_stand (r ∷ rs) = stands r && all_stand rs

abbrev pub WorkedLengths : Type 0
WorkedLengths = all_stand rows ≡ true
