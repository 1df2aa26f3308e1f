-- Making a descriptor.
--   made_length ..   how many bytes it will have
--   keys_fit ..      whether keys and salt have the sizes that the suite tells
--   make_tests ..    refusals, in this order:
--                      Suite Size   a key or the salt has the wrong length, or the work area is shorter than 240 bytes
--                      Vector       the vector has not the size told
--                      TooLong      the descriptor would have more than 65,535 bytes
--                      Output       the output is shorter than the descriptor
--   Makeable ..      none of these refusals fits
--   lead_of, front   what stands before the SAI, and before the protected part
--   made_bytes ..    the bytes of the descriptor: the text of the data, sealed
--   making ..        those bytes, or the first refusal that fits; before all, Suite NotServed
--   answer, output_after, work_after   the answer, the output and the work area after making
use Rattle.std.specs.Prelude.{◌≡◌, ℕ, ◌+◌, ◌-◌, ◌≤◌, Bool, not, ◌&&◌, ◌||◌, List, [], ◌∷◌, ◌++◌, length, Some, None, Ok, Err, Option, Result, ◌==◌, nat_lt}
use Rattle.octets.specs.Numbers.{big_endian}
use Rattle.octets.specs.Octets.{over, wiped}
use Rattle.layout.specs.Layout.{descriptor, head_of, lead}
use Rattle.layout.specs.Refusals.{Test, first_fit, judged}
use Rattle.layout.specs.declared.Form.{Form}
use Rattle.layout.specs.declared.Form.TheVariants.{Long, Short}
use Rattle.suite.specs.Meaning.{Meaning}
use Rattle.suite.specs.declared.Fault.TheVariants.{NotServed, Size}
use Rattle.suite.specs.declared.Sizes.{Sizes}
use Rattle.descriptor.specs.Text.{given_to, text_of, text_length}
use Rattle.descriptor.specs.declared.fault.Fault.{Fault}
use Rattle.descriptor.specs.declared.fault.Fault.TheVariants.{Suite, Vector, TooLong, Output}
use Rattle.descriptor.specs.declared.making.Label.{Label}
use Rattle.descriptor.specs.declared.protection.Protection.{Protection}

abbrev pub made_length : Form → Sizes → ℕ → ℕ
made_length form z n = lead form + 12 + z.vector + text_length z n + z.check

abbrev pub keys_fit : Protection → Sizes → Bool
keys_fit p z =
    (length p.key.now == p.triple.key)
    && (length p.salt.now == z.salt
    && length p.integrity.now == z.integrity)

-- for a vector of s bytes, n data bytes, an output and a work area of these lengths
abbrev pub make_tests : Protection → Form → Sizes → ℕ → ℕ → ℕ → ℕ → List (Test Fault)
make_tests p form z s n out work =
    record { fits = nat_lt work 240 || not (keys_fit p z); fault = Suite Size }
    ∷ record { fits = not (s == z.vector); fault = Vector }
    ∷ record { fits = nat_lt 65535 (made_length form z n); fault = TooLong }
    ∷ record { fits = nat_lt out (made_length form z n); fault = Output }
    ∷ []

-- the facts at which none of these refusals fits
pub record Makeable (p : Protection) (form : Form) (z : Sizes) (s n out work : ℕ) : Type 0 where
  pub work_bytes : 240 ≤ work
  pub key : length p.key.now ≡ p.triple.key
  pub salt : length p.salt.now ≡ z.salt
  pub integrity : length p.integrity.now ≡ z.integrity
  pub vector : s ≡ z.vector
  pub short : made_length form z n ≤ 65535
  pub room : made_length form z n ≤ out

-- what stands before the SAI of a descriptor of this many bytes
abbrev pub lead_of : Form → ℕ → List ℕ
lead_of Long total = big_endian 2 (total - 2) ++ (0 ∷ 0 ∷ [])
lead_of Short total = []

-- what stands before the protected part
abbrev pub front : Label → ℕ → List ℕ → List ℕ
front l total vector = ((lead_of l.form total ++ big_endian 4 l.sai) ++ big_endian 8 l.sqn) ++ vector

module _ (m : Meaning) (p : Protection) (l : Label) (vector xs out work : List ℕ) where
  abbrev pub made_bytes : Sizes → List ℕ
  made_bytes z =
      descriptor l.form l.sai l.sqn vector
      (m.sealed p.triple (given_to p (head_of l.sai l.sqn) vector) (text_of z xs))

  abbrev pub making_by : Option Sizes → Result (List ℕ) Fault
  making_by None = Err (Suite NotServed)
  making_by (Some z) = judged (first_fit (make_tests p l.form z (length vector) (length xs) (length out) (length work))) (made_bytes z)

  abbrev pub making : Result (List ℕ) Fault
  making = making_by (m.serves p.triple)

abbrev pub answer : Result (List ℕ) Fault → Result ℕ Fault
answer (Ok d) = Ok (length d)
answer (Err f) = Err f

-- the descriptor fills the output's start, the rest keeps its bytes
abbrev pub output_after : Result (List ℕ) Fault → List ℕ → List ℕ
output_after (Ok d) out = over d out
output_after (Err f) out = out

abbrev pub work_after : Result (List ℕ) Fault → List ℕ → List ℕ
work_after (Ok d) work = wiped 240 work
work_after (Err f) work = work
