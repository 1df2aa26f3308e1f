-- What the calls come to.
--   fits n t m       whether a nonce of n bytes, a check value of t bytes and a text of m bytes go together
--   sealable, openable  whether lengths fit, with the room there is
--   sealing          what a call of seal comes to: the sealed bytes, or a fault
--   opening          what a call of open comes to: the text, or a fault
--   counted, output_after  the answer and the output after such a call
use Rattle.std.specs.Prelude.{ℕ, ◌+◌, ◌-◌, ◌*◌, ◌%◌, ◌^◌, Bool, cond, ◌&&◌, List, length, take, Ok, Err, Result, ◌==◌, nat_le, nat_lt}
use Rattle.std.specs.Option.{ok_or}
use Rattle.octets.specs.Octets.{over, wiped}
use Rattle.ccm.specs.Ccm.{sealed, opened}
use Rattle.ccm.specs.declared.fault.Fault.{Fault}
use Rattle.ccm.specs.declared.fault.Fault.TheVariants.{Size, Mismatch}

abbrev pub fits : ℕ → ℕ → ℕ → Bool
fits n t m =
    nat_le 7 n && (nat_le n 13 && (nat_le 4 t && (nat_le t 16 && (t % 2 == 0 && nat_lt m (2 ^ (8 * (15 - n)))))))

abbrev pub sealable : ℕ → ℕ → ℕ → ℕ → Bool
sealable n t m out = fits n t m && nat_le (m + t) out

-- m sealed bytes
abbrev pub openable : ℕ → ℕ → ℕ → ℕ → Bool
openable n t m out = nat_le t m && (fits n t (m - t) && nat_le (m - t) out)

module _ (e : List ℕ → List ℕ) where
  -- m bytes of text stand at the output's start
  abbrev pub sealing : ℕ → List ℕ → List ℕ → ℕ → List ℕ → Result (List ℕ) Fault
  sealing t nonce aad m out =
      cond (sealable (length nonce) t m (length out)) (Ok (sealed e t nonce aad (take m out))) (Err Size)

  -- y are the sealed bytes
  abbrev pub opening : ℕ → List ℕ → List ℕ → List ℕ → List ℕ → Result (List ℕ) Fault
  opening t nonce aad y out =
      cond (openable (length nonce) t (length y) (length out)) (ok_or (opened e t nonce aad y) Mismatch) (Err Size)

-- a call answers how many bytes it gave
abbrev pub counted : Result (List ℕ) Fault → Result ℕ Fault
counted (Ok xs) = Ok (length xs)
counted (Err f) = Err f

-- the output: the bytes given, then its old bytes; at a mismatch zeros where the text of m bytes would stand; else unchanged
abbrev pub output_after : Result (List ℕ) Fault → ℕ → List ℕ → List ℕ
output_after (Ok xs) m out = over xs out
output_after (Err Size) m out = out
output_after (Err Mismatch) m out = wiped m out
