-- ENCR_NULL: the text goes through as it is. It has the code 8001 000Bh, no key and no vector, and does not encrypt.
--   null_code    its code
--   null_cipher  what it means as a cipher
use Rattle.std.specs.Prelude.{ℕ, false, cond, ◌&&◌, List, Some, None, Option, ◌==◌}
use Rattle.suite.specs.Cipher.{CipherMeaning}
use Rattle.suite.specs.declared.CipherSizes.{CipherSizes}

abbrev pub null_code : ℕ
null_code = 0x8001_000b

abbrev pub null_serves : ℕ → ℕ → Option CipherSizes
null_serves code key = cond (code == null_code && key == 0) (Some (record { vector = 0; unit = 1; encrypts = false })) None

abbrev pub unchanged : List ℕ → List ℕ → List ℕ → List ℕ
unchanged key vector text = text

abbrev pub null_cipher : CipherMeaning
null_cipher = record { serves = null_serves; enciphered = unchanged; deciphered = unchanged }
