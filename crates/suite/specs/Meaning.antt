-- What a protection suite means, and what its calls come to.
--   Given        what sealing and opening take besides the text
--   Meaning      a suite: what it serves, with which sizes; sealing; opening
--   lengths_fit  whether key, salt, integrity key, head and vector have their sizes
--   text_fits    whether a text of n bytes may be sealed: a multiple of the unit, below 2^32
--   sealing      what a call of seal comes to: the sealed bytes, or a fault
--   opening      what a call of open comes to: the text, or a fault
--   counted, output_after, work_after   the answer, the output and the work area after such a call
use Rattle.std.specs.Prelude.{ℕ, ◌+◌, ◌-◌, ◌%◌, ◌^◌, Bool, cond, ◌&&◌, List, length, take, Some, None, Ok, Err, Option, Result, ◌==◌, nat_le, nat_lt}
use Rattle.std.specs.Option.{ok_or}
use Rattle.octets.specs.Octets.{over, wiped}
use Rattle.suite.specs.declared.fault.Fault.{Fault}
use Rattle.suite.specs.declared.fault.Fault.TheVariants.{NotServed, Size, Mismatch}
use Rattle.suite.specs.declared.inputs.Inputs.{Inputs}
use Rattle.suite.specs.declared.sizes.Sizes.{Sizes}
use Rattle.suite.specs.declared.triple.Triple.{Triple}

pub record Given : Type 0 where
  pub key : List ℕ
  pub salt : List ℕ
  pub integrity : List ℕ
  pub head : List ℕ
  pub vector : List ℕ

abbrev pub given : Inputs → Given
given i = record {
  key = i.key.now;
  salt = i.salt.now;
  integrity = i.integrity.now;
  head = i.head.now;
  vector = i.vector.now;
}

pub record Meaning : Type 0 where
  pub serves : Triple → Option Sizes
  pub sealed : Triple → Given → List ℕ → List ℕ
  pub opened : Triple → Given → List ℕ → Option (List ℕ)

-- the head is the 4 bytes of the SAI and the 8 bytes of the SQN
abbrev pub lengths_fit : Triple → Sizes → Given → Bool
lengths_fit t z g =
    (length g.key == t.key)
    && (length g.salt == z.salt
    && (length g.integrity == z.integrity
    && (length g.head == 12
    && length g.vector == z.vector)))

abbrev pub text_fits : Sizes → ℕ → Bool
text_fits z n = n % z.unit == 0 && nat_lt n (2 ^ 32)

-- whether a text of n bytes, with what it takes, may be sealed in an output and a work area of these lengths
abbrev pub sealing_fits : Triple → Sizes → Given → ℕ → ℕ → ℕ → Bool
sealing_fits t z g n out work = lengths_fit t z g && (text_fits z n && (nat_le (n + z.check) out && nat_le 240 work))

-- whether n sealed bytes may be opened: a text's, and a check value's
abbrev pub opening_fits : Triple → Sizes → Given → ℕ → ℕ → ℕ → Bool
opening_fits t z g n out work =
    lengths_fit t z g && (nat_le z.check n && (text_fits z (n - z.check) && (nat_le (n - z.check) out && nat_le 240 work)))

-- n bytes of text stand at the output's start
abbrev pub sealing_by : Option Sizes → Meaning → Triple → Given → ℕ → List ℕ → List ℕ → Result (List ℕ) Fault
sealing_by None m t g n out work = Err NotServed
sealing_by (Some z) m t g n out work =
    cond (sealing_fits t z g n (length out) (length work)) (Ok (m.sealed t g (take n out))) (Err Size)

abbrev pub sealing : Meaning → Triple → Given → ℕ → List ℕ → List ℕ → Result (List ℕ) Fault
sealing m t g n out work = sealing_by (m.serves t) m t g n out work

-- y are the sealed bytes
abbrev pub opening_by : Option Sizes → Meaning → Triple → Given → List ℕ → List ℕ → List ℕ → Result (List ℕ) Fault
opening_by None m t g y out work = Err NotServed
opening_by (Some z) m t g y out work =
    cond (opening_fits t z g (length y) (length out) (length work)) (ok_or (m.opened t g y) Mismatch) (Err Size)

abbrev pub opening : Meaning → Triple → Given → List ℕ → List ℕ → List ℕ → Result (List ℕ) Fault
opening m t g y out work = opening_by (m.serves t) m t g y out work

-- a call answers how many bytes it gave
abbrev pub counted : Result (List ℕ) Fault → Result ℕ Fault
counted (Ok xs) = Ok (length xs)
counted (Err f) = Err f

-- the check value's size, where the triple is served
abbrev pub check_size : Option Sizes → ℕ
check_size None = 0
check_size (Some z) = z.check

-- the output: the bytes given, then its old bytes; at a mismatch zeros where the text would stand; else unchanged
abbrev pub output_after : Result (List ℕ) Fault → ℕ → List ℕ → List ℕ
output_after (Ok xs) n out = over xs out
output_after (Err NotServed) n out = out
output_after (Err Size) n out = out
output_after (Err Mismatch) n out = wiped n out

-- the work area: its first 240 bytes zero and the rest kept, but unchanged where the call was not begun
abbrev pub work_after : Result (List ℕ) Fault → List ℕ → List ℕ
work_after (Ok xs) work = wiped 240 work
work_after (Err NotServed) work = work
work_after (Err Size) work = work
work_after (Err Mismatch) work = wiped 240 work
