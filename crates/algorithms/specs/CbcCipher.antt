-- Cipher block chaining over any block cipher, as a cipher that a pairing takes. It serves one code, with keys of every length that
-- the block cipher takes; the vector is a block of 16 bytes, and a text has whole blocks.
--   schedule_served  how long a key's schedule is, where the code and such keys are served
--   cbc_sizes        the sizes
--   cbc_fits         whether vector, text and work area have the right lengths
--   cbc_cipher       what it means as a cipher
use Rattle.std.specs.Prelude.{ℕ, ◌%◌, Bool, true, cond, ◌&&◌, List, Some, None, Option, ◌==◌, nat_le}
use Rattle.cbc.specs.Cbc.{cbc_enciphered, cbc_deciphered}
use Rattle.suite.specs.Cipher.{CipherMeaning}
use Rattle.suite.specs.declared.CipherSizes.{CipherSizes}

abbrev pub cbc_sizes : CipherSizes
cbc_sizes = record { vector = 16; unit = 16; encrypts = true }

abbrev pub cbc_fits : ℕ → ℕ → ℕ → Bool
cbc_fits vector text work = vector == 16 && (text % 16 == 0 && nat_le 240 work)

-- own is the code that is served
abbrev pub schedule_served : (ℕ → Option ℕ) → ℕ → ℕ → ℕ → Option ℕ
schedule_served scheduled own code key = cond (code == own) (scheduled key) None

abbrev pub sizes_where : Option ℕ → Option CipherSizes
sizes_where None = None
sizes_where (Some n) = Some cbc_sizes

-- the functions of a block cipher, as its interface has them
module _ (scheduled : ℕ → Option ℕ) (expanded : List ℕ → List ℕ) (forward inverse : List ℕ → List ℕ → List ℕ) where
  abbrev pub cbc_serves : ℕ → ℕ → ℕ → Option CipherSizes
  cbc_serves own code key = sizes_where (schedule_served scheduled own code key)

  abbrev pub cbc_cipher : ℕ → CipherMeaning
  cbc_cipher own = record {
    serves = cbc_serves own;
    enciphered = λ key vector text. cbc_enciphered (forward (expanded key)) vector text;
    deciphered = λ key vector text. cbc_deciphered (inverse (expanded key)) vector text;
  }
