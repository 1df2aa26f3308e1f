-- The lengths at which sealing and opening are carried out, as facts.
--   Lengths    key, salt, integrity key, head and vector have their sizes
--   Sealable   a text of n bytes may be sealed in an output and a work area of these lengths
--   Openable   n sealed bytes may be opened into an output of this length
use Rattle.std.specs.Prelude.{◌≡◌, ℕ, ◌+◌, ◌-◌, ◌%◌, ◌^◌, ◌<◌, ◌≤◌, length}
use Rattle.suite.specs.Meaning.{Given}
use Rattle.suite.specs.declared.sizes.Sizes.{Sizes}
use Rattle.suite.specs.declared.triple.Triple.{Triple}

pub record Lengths (t : Triple) (z : Sizes) (g : Given) : Type 0 where
  pub key : length g.key ≡ t.key
  pub salt : length g.salt ≡ z.salt
  pub integrity : length g.integrity ≡ z.integrity
  pub head : length g.head ≡ 12
  pub vector : length g.vector ≡ z.vector

pub record Sealable (t : Triple) (z : Sizes) (g : Given) (n out work : ℕ) : Type 0 where
  pub lengths : Lengths t z g
  pub units : n % z.unit ≡ 0
  pub short : n < 2 ^ 32
  pub room : n + z.check ≤ out
  pub work_bytes : 240 ≤ work

pub record Openable (t : Triple) (z : Sizes) (g : Given) (n out work : ℕ) : Type 0 where
  pub lengths : Lengths t z g
  pub check : z.check ≤ n
  pub units : (n - z.check) % z.unit ≡ 0
  pub short : n - z.check < 2 ^ 32
  pub room : n - z.check ≤ out
  pub work_bytes : 240 ≤ work
