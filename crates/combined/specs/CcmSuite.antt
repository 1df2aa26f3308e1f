-- CCM as a suite (RFC 4309): one algorithm encrypts the text and computes the check value.
-- scheduled, expanded and forward are the block cipher's: which keys it takes, a key's schedule, the forward cipher function.
--   ccm_sizes   the sizes: no integrity key, a salt of 3 bytes, a vector of 8, a check value of 16; texts in units of 16
--   sizes_of    these sizes, where the block cipher takes such keys
--   ccm_serves  the sizes under the suite's two codes, for each key that the block cipher takes
--   nonce       the nonce: salt, then vector
--   ccm_suite   what it means as a suite
--   told r      what CCM answers, as a suite answers it
use Rattle.std.specs.Prelude.{ℕ, true, cond, ◌&&◌, List, ◌++◌, Some, None, Ok, Err, Option, Result, ◌==◌}
use Rattle.ccm.specs.Ccm.{sealed, opened}
use Rattle.ccm.specs.declared.Fault.{Fault as CcmFault}
use Rattle.ccm.specs.declared.Fault.TheVariants.{Size as CcmSize, Mismatch as CcmMismatch}
use Rattle.suite.specs.Meaning.{Given, Meaning}
use Rattle.suite.specs.declared.Fault.{Fault}
use Rattle.suite.specs.declared.Fault.TheVariants.{Size, Mismatch}
use Rattle.suite.specs.declared.Sizes.{Sizes}
use Rattle.suite.specs.declared.Triple.{Triple}

abbrev pub ccm_sizes : Sizes
ccm_sizes = record { integrity = 0; salt = 3; vector = 8; check = 16; unit = 16; encrypts = true }

-- the length of a key's schedule is told exactly where such keys are taken
abbrev pub sizes_of : Option ℕ → Option Sizes
sizes_of None = None
sizes_of (Some n) = Some ccm_sizes

abbrev pub nonce : Given → List ℕ
nonce g = g.salt ++ g.vector

module _ (scheduled : ℕ → Option ℕ) (encryption integrity : ℕ) where
  abbrev pub ccm_serves : Triple → Option Sizes
  ccm_serves t = cond (t.encryption == encryption && t.integrity == integrity) (sizes_of (scheduled t.key)) None

module _ (expanded : List ℕ → List ℕ) (forward : List ℕ → List ℕ → List ℕ) where
  -- the associated data are the head
  abbrev pub ccm_sealed : Given → List ℕ → List ℕ
  ccm_sealed g x = sealed (forward (expanded g.key)) 16 (nonce g) g.head x

  abbrev pub ccm_opened : Given → List ℕ → Option (List ℕ)
  ccm_opened g y = opened (forward (expanded g.key)) 16 (nonce g) g.head y

abbrev pub ccm_suite : (ℕ → Option ℕ) → (List ℕ → List ℕ) → (List ℕ → List ℕ → List ℕ) → ℕ → ℕ → Meaning
ccm_suite scheduled expanded forward encryption integrity = record {
  serves = ccm_serves scheduled encryption integrity;
  sealed = λ t g x. ccm_sealed expanded forward g x;
  opened = λ t g y. ccm_opened expanded forward g y;
}

abbrev pub told : Result ℕ CcmFault → Result ℕ Fault
told (Ok n) = Ok n
told (Err CcmSize) = Err Size
told (Err CcmMismatch) = Err Mismatch
