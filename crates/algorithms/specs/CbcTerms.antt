-- What cipher block chaining serves as a cipher has its sizes and a schedule, and what fits it is blocks. Assumes nothing.
use Rattle.std.specs.Prelude.{◌≡◌, ℕ, ◌%◌, Bool, true, false, cond, List, length, Some, None, Option, ◌==◌, refl}
use Rattle.std.proofs.Common.{sym, ap, ◌∙◌}
use Rattle.cbc.proofs.Inverses.{Block}
use Rattle.octets.specs.Octets.{Octets}
use Rattle.suite.specs.Cipher.{FittingCipher, Whole}
use Rattle.suite.specs.declared.CipherSizes.{CipherSizes}
use Rattle.algorithms.specs.CbcCipher.{cbc_cipher, schedule_served, sizes_where}

-- o is how long the schedule is, where such keys are taken
pub record Terms (o : Option ℕ) (z : CipherSizes) : Type 0 where
  pub schedule : ℕ
  pub taken : o ≡ Some schedule
  pub vector : z.vector ≡ 16
  pub unit : z.unit ≡ 16
  pub encrypts : z.encrypts ≡ true

told : (b : Bool) (o : Option ℕ) (z : CipherSizes) → sizes_where (cond b o None) ≡ Some z → Terms o z
told false o z e = cc
told true None z e = cc
told true (Some m) z e = record { schedule = m; taken = refl; vector = cc; unit = cc; encrypts = cc }

pub served : (scheduled : ℕ → Option ℕ) (own code key : ℕ) (z : CipherSizes) → sizes_where (schedule_served scheduled own code key) ≡ Some z → Terms (scheduled key) z
served scheduled own code key z e = told (code == own) (scheduled key) z e

-- a vector and a text that have the sizes told
pub record InBlocks (v x : List ℕ) : Type 0 where
  pub one_block : length v ≡ 16
  pub whole_blocks : length x % 16 ≡ 0

pub in_blocks : (scheduled : ℕ → Option ℕ) (own code key : ℕ) (z : CipherSizes) (v x : List ℕ)
    → sizes_where (schedule_served scheduled own code key) ≡ Some z → length v ≡ z.vector → length x % z.unit ≡ 0 → InBlocks v x
in_blocks scheduled own code key z v x e long units =
    let t = served scheduled own code key z e in
    record { one_block = long ∙ t.vector; whole_blocks = ap (λ u. length x % u) (sym t.unit) ∙ units }

-- a key, a vector and a text that fit, as cipher block chaining takes them
pub record Chained (schedule v x : List ℕ) : Type 0 where
  pub schedule_bytes : Octets schedule
  pub vector : Block v
  pub whole_blocks : length x % 16 ≡ 0

module _ (scheduled : ℕ → Option ℕ) (expanded : List ℕ → List ℕ) (forward inverse : List ℕ → List ℕ → List ℕ) (own : ℕ)
    (expanding-gives : (k : List ℕ) (m : ℕ) → scheduled (length k) ≡ Some m → Octets k → Octets (expanded k)) where
  pub chained : (code : ℕ) (z : CipherSizes) (k v x : List ℕ)
      → FittingCipher (cbc_cipher scheduled expanded forward inverse own) code z k v → Whole z x → Chained (expanded k) v x
  chained code z k v x f h =
      let t = served scheduled own code (length k) z f.told in
      let b = in_blocks scheduled own code (length k) z v x f.told f.length_of_vector h.units in
      record {
        schedule_bytes = expanding-gives k t.schedule t.taken f.key_bytes;
        vector = record { long = b.one_block; bytes = f.vector_bytes };
        whole_blocks = b.whole_blocks;
      }
