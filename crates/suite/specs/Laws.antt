-- The laws that every suite keeps.
--   Bounded            the sizes that a suite tells are within bounds
--   Fitting            keys, salt, head and vector are bytes and have their sizes
--   Served             a triple that the suite serves, with what fits its sizes
--   Text               bytes that may be sealed
--   Sealed             bytes that are as long as a text with its check value
--   NoTextSealsTo      no text seals to these bytes
-- Each law stands below under the name of what it says.
use Rattle.std.specs.Prelude.{◌≡◌, ℕ, ◌+◌, ◌-◌, ◌≤◌, true, false, List, length, Some, None, ◌≢◌}
use Rattle.octets.specs.Octets.{Octets}
use Rattle.suite.specs.Meaning.{Given, Meaning, lengths_fit, text_fits}
use Rattle.suite.specs.declared.sizes.Sizes.{Sizes}
use Rattle.suite.specs.declared.triple.Triple.{Triple}

pub record Bounded (t : Triple) (z : Sizes) : Type 0 where
  pub key : t.key ≤ 32
  pub integrity : z.integrity ≤ 32
  pub salt : z.salt ≤ 4
  pub vector : z.vector ≤ 16
  pub some_check : 1 ≤ z.check
  pub check : z.check ≤ 32
  pub some_unit : 1 ≤ z.unit
  pub unit : z.unit ≤ 16
  pub unit_in_clear : z.encrypts ≡ false → z.unit ≡ 1

pub record Fitting (t : Triple) (z : Sizes) (g : Given) : Type 0 where
  pub lengths : lengths_fit t z g ≡ true
  pub key : Octets g.key
  pub salt : Octets g.salt
  pub integrity : Octets g.integrity
  pub head : Octets g.head
  pub vector : Octets g.vector

pub record Text (z : Sizes) (x : List ℕ) : Type 0 where
  pub bytes : Octets x
  pub fits : text_fits z (length x) ≡ true

pub record Served (m : Meaning) (t : Triple) (g : Given) : Type 0 where
  pub sizes : Sizes
  pub told : m.serves t ≡ Some sizes
  pub fitting : Fitting t sizes g

pub record Sealed (z : Sizes) (y : List ℕ) : Type 0 where
  pub bytes : Octets y
  pub check : z.check ≤ length y
  pub fits : text_fits z (length y - z.check) ≡ true

module _ (m : Meaning) where
  -- the sizes told are within bounds
  abbrev pub SizesAreBounded : Type 0
  SizesAreBounded = (t : Triple) (z : Sizes) → m.serves t ≡ Some z → Bounded t z

  -- what is sealed has the text's length and the check value's
  abbrev pub SealingAddsTheCheckValue : Type 0
  SealingAddsTheCheckValue =
      (t : Triple) (z : Sizes) (g : Given) (x : List ℕ) → m.serves t ≡ Some z
      → lengths_fit t z g ≡ true → text_fits z (length x) ≡ true → length (m.sealed t g x) ≡ length x + z.check

  abbrev pub SealingGivesBytes : Type 0
  SealingGivesBytes = (t : Triple) (g : Given) (s : Served m t g) (x : List ℕ) → Text s.sizes x → Octets (m.sealed t g x)

  -- opening what sealing gave yields the same text
  abbrev pub OpeningUndoesSealing : Type 0
  OpeningUndoesSealing =
      (t : Triple) (g : Given) (s : Served m t g) (x : List ℕ) → Text s.sizes x
      → m.opened t g (m.sealed t g x) ≡ Some x

  -- bytes that open to a text are the sealing of that text
  abbrev pub WhatOpensWasSealed : Type 0
  WhatOpensWasSealed =
      (t : Triple) (g : Given) (s : Served m t g) (x y : List ℕ) → Sealed s.sizes y
      → m.opened t g y ≡ Some x → Text s.sizes x × (m.sealed t g x ≡ y)

  abbrev pub NoTextSealsTo : (t : Triple) (g : Given) → Sizes → List ℕ → Type 0
  NoTextSealsTo t g z y = (x : List ℕ) → Text z x → m.sealed t g x ≢ y

  -- "mismatch" is said exactly when no text seals to those bytes
  abbrev pub MismatchWhenNoTextSeals : Type 0
  MismatchWhenNoTextSeals =
      (t : Triple) (g : Given) (s : Served m t g) (y : List ℕ) → Sealed s.sizes y
      → (m.opened t g y ≡ None → NoTextSealsTo t g s.sizes y)
      × (NoTextSealsTo t g s.sizes y → m.opened t g y ≡ None)
