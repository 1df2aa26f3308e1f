-- The layout of an ESP-SCSI descriptor. Fields are big-endian.
--
--   long form   short form   field
--   0 to 1                   DESCRIPTOR LENGTH, the number of bytes after it
--   2 to 3                   reserved: built as zero, not looked at on arrival
--   4 to 7      0 to 3       SAI
--   8 to 15     4 to 11      SQN
--   16 on       12 on        the vector, then the protected part, then the check value
--
--   form_of span      the form of a descriptor that reaches so far
--   span_of form len  how far a descriptor of len bytes reaches: its own DESCRIPTOR LENGTH tells it, or the call
--   lead form         how many bytes stand before the SAI
--   head_of sai sqn   the bytes of SAI and SQN, which the check value covers first
--   content ..        a descriptor from its SAI on; sealed is the protected part with the check value after it
--   descriptor ..     the bytes of a whole descriptor
use Rattle.std.specs.Prelude.{ℕ, ◌+◌, List, ◌∷◌, ◌++◌, length}
use Rattle.octets.specs.Numbers.{big_endian}
use Rattle.layout.specs.declared.form.Form.{Form}
use Rattle.layout.specs.declared.form.Form.TheVariants.{Long, Short}
use Rattle.layout.specs.declared.form.Span.{Span}
use Rattle.layout.specs.declared.form.Span.TheVariants.{Long as long, Short as short}

abbrev pub form_of : Span → Form
form_of long = Long
form_of (short len) = Short

abbrev pub span_of : Form → ℕ → Span
span_of Long len = long
span_of Short len = short len

abbrev pub lead : Form → ℕ
lead Long = 4
lead Short = 0

abbrev pub head_of : ℕ → ℕ → List ℕ
head_of sai sqn = big_endian 4 sai ++ big_endian 8 sqn

abbrev pub content : ℕ → ℕ → List ℕ → List ℕ → List ℕ
content sai sqn vector sealed = head_of sai sqn ++ (vector ++ sealed)

abbrev pub descriptor : Form → ℕ → ℕ → List ℕ → List ℕ → List ℕ
descriptor Long sai sqn vector sealed =
    big_endian 2 (2 + length (content sai sqn vector sealed)) ++ (0 ∷ 0 ∷ content sai sqn vector sealed)
descriptor Short sai sqn vector sealed = content sai sqn vector sealed
