-- What an integrity algorithm means: a check value over a key and a message.
--   IntegrityMeaning   an integrity algorithm: the codes that it serves, with their sizes; the check value
--   checked            what the check value covers: head, vector and the enciphered text, in this order
use Rattle.std.specs.Prelude.{◌≡◌, ℕ, ◌≤◌, List, ◌++◌, length, Some, Option}
use Rattle.octets.specs.Octets.{Octets}
use Rattle.suite.specs.declared.integrity.IntegritySizes.{IntegritySizes}

-- value takes a code, a key and a message
pub record IntegrityMeaning : Type 0 where
  pub serves : ℕ → Option IntegritySizes
  pub value : ℕ → List ℕ → List ℕ → List ℕ

abbrev pub checked : List ℕ → List ℕ → List ℕ → List ℕ
checked head vector enciphered = head ++ (vector ++ enciphered)

pub record BoundedIntegrity (z : IntegritySizes) : Type 0 where
  pub key : z.key ≤ 32
  pub some_check : 1 ≤ z.check
  pub check : z.check ≤ 32

module _ (m : IntegrityMeaning) where
  abbrev pub IntegritySizesAreBounded : Type 0
  IntegritySizesAreBounded = (code : ℕ) (z : IntegritySizes) → m.serves code ≡ Some z → BoundedIntegrity z

  -- a check value is bytes, and as many as was told
  abbrev pub CheckValueHasItsSize : Type 0
  CheckValueHasItsSize =
      (code : ℕ) (z : IntegritySizes) (key message : List ℕ) → m.serves code ≡ Some z
      → Octets (m.value code key message) × (length (m.value code key message) ≡ z.check)
