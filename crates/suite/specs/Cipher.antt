-- What a cipher means: a text is enciphered and deciphered in place.
--   CipherMeaning    a cipher: the codes and key lengths that it serves, with their sizes; both directions
--   ciphering        what a call comes to, in either direction: the new text, or a fault
--   FittingCipher    a key and a vector that are bytes and have the sizes of a code that is served
--   Whole            bytes in whole units
use Rattle.std.specs.Prelude.{◌≡◌, ℕ, ◌%◌, ◌≤◌, false, cond, ◌&&◌, List, length, Some, None, Ok, Err, Option, Result, ◌==◌, nat_le}
use Rattle.octets.specs.Octets.{Octets}
use Rattle.suite.specs.declared.cipher.CipherSizes.{CipherSizes}
use Rattle.suite.specs.declared.fault.Fault.{Fault}
use Rattle.suite.specs.declared.fault.Fault.TheVariants.{NotServed, Size}

-- enciphered and deciphered take a key, a vector and a text
pub record CipherMeaning : Type 0 where
  pub serves : ℕ → ℕ → Option CipherSizes
  pub enciphered : List ℕ → List ℕ → List ℕ → List ℕ
  pub deciphered : List ℕ → List ℕ → List ℕ → List ℕ

abbrev pub ciphering_by : Option CipherSizes → (List ℕ → List ℕ → List ℕ → List ℕ) → List ℕ → List ℕ → List ℕ → List ℕ → Result (List ℕ) Fault
ciphering_by None turned key vector text work = Err NotServed
ciphering_by (Some z) turned key vector text work =
    cond (length vector == z.vector && (length text % z.unit == 0 && nat_le 240 (length work)))
    (Ok (turned key vector text))
    (Err Size)

-- the first argument is enciphered or deciphered
abbrev pub ciphering : (List ℕ → List ℕ → List ℕ → List ℕ) → CipherMeaning → ℕ → List ℕ → List ℕ → List ℕ → List ℕ → Result (List ℕ) Fault
ciphering turned m code key vector text work = ciphering_by (m.serves code (length key)) turned key vector text work

abbrev pub done : Result (List ℕ) Fault → Result (Unit {0}) Fault
done (Ok x) = Ok tt
done (Err f) = Err f

abbrev pub text_after : Result (List ℕ) Fault → List ℕ → List ℕ
text_after (Ok x) text = x
text_after (Err f) text = text

pub record FittingCipher (m : CipherMeaning) (code : ℕ) (z : CipherSizes) (key vector : List ℕ) : Type 0 where
  pub told : m.serves code (length key) ≡ Some z
  pub length_of_vector : length vector ≡ z.vector
  pub key_bytes : Octets key
  pub vector_bytes : Octets vector

pub record Whole (z : CipherSizes) (x : List ℕ) : Type 0 where
  pub bytes : Octets x
  pub units : length x % z.unit ≡ 0

-- keys and sizes are within bounds, and a cipher that does not encrypt has unit 1
pub record BoundedCipher (n : ℕ) (z : CipherSizes) : Type 0 where
  pub key : n ≤ 32
  pub vector : z.vector ≤ 16
  pub some_unit : 1 ≤ z.unit
  pub unit : z.unit ≤ 16
  pub unit_in_clear : z.encrypts ≡ false → z.unit ≡ 1

module _ (m : CipherMeaning) where
  abbrev pub CipherSizesAreBounded : Type 0
  CipherSizesAreBounded = (code key : ℕ) (z : CipherSizes) → m.serves code key ≡ Some z → BoundedCipher key z

  abbrev pub KeepsLength : (List ℕ → List ℕ → List ℕ → List ℕ) → Type 0
  KeepsLength turned =
      (code : ℕ) (z : CipherSizes) (k v x : List ℕ) → m.serves code (length k) ≡ Some z
      → length v ≡ z.vector → length x % z.unit ≡ 0 → length (turned k v x) ≡ length x

  abbrev pub GivesBytes : (List ℕ → List ℕ → List ℕ → List ℕ) → Type 0
  GivesBytes turned =
      (code : ℕ) (z : CipherSizes) (k v x : List ℕ) → FittingCipher m code z k v → Whole z x → Octets (turned k v x)

  abbrev pub DecipheringUndoesEnciphering : Type 0
  DecipheringUndoesEnciphering =
      (code : ℕ) (z : CipherSizes) (k v x : List ℕ) → FittingCipher m code z k v → Whole z x
      → m.deciphered k v (m.enciphered k v x) ≡ x

  abbrev pub EncipheringUndoesDeciphering : Type 0
  EncipheringUndoesDeciphering =
      (code : ℕ) (z : CipherSizes) (k v x : List ℕ) → FittingCipher m code z k v → Whole z x
      → m.enciphered k v (m.deciphered k v x) ≡ x
