-- The parts in which CCM is computed. e is the forward cipher function under a key.
--   headed b nonce i          a block: the byte b, the nonce, and the number i in the bytes that are left
--   taken_in e x xs           the chaining value after x, once xs is taken in, in whole blocks
--   associated aad            the associated data behind its length
--   last_value e t nonce aad text  the last chaining value: the tag is its first t bytes
--   whole_check e t nonce aad text  16 bytes, of which the check value is the first t
--   masked_from e nonce i xs  xs in counter mode, from the number i on
--   first_masked e nonce n out  the buffer out once its first n bytes are masked
--   unmasked e nonce n y out  the buffer out once the first n bytes of y are written over its start, masked
--   check_placed e t nonce aad n out  the buffer out once the check value over its first n bytes is written behind them
use Rattle.std.specs.Prelude.{ℕ, ◌+◌, ◌/◌, List, ◌∷◌, ◌++◌, length, take}
use Rattle.octets.specs.Numbers.{big_endian}
use Rattle.octets.specs.Octets.{over, placed}
use Rattle.block.specs.Xor.{xored}
use Rattle.ccm.specs.Ccm.{whole, length_size, first_block, encoded_length, chained, keystream, counter_block, masked, check_value}

abbrev pub headed : ℕ → List ℕ → ℕ → List ℕ
headed b nonce i = b ∷ (nonce ++ big_endian (length_size nonce) i)

abbrev pub associated : List ℕ → List ℕ
associated aad = encoded_length (length aad) ++ aad

module _ (e : List ℕ → List ℕ) where
  unfoldable pub taken_in : List ℕ → List ℕ → List ℕ
  taken_in x xs = chained e (length (whole xs) / 16) x (whole xs)

  abbrev pub last_value : ℕ → List ℕ → List ℕ → List ℕ → List ℕ
  last_value t nonce aad text = taken_in (taken_in (e (first_block t nonce aad (length text))) (associated aad)) text

  -- the last chaining value, enciphered with the counter block of the number 0
  abbrev pub whole_check : ℕ → List ℕ → List ℕ → List ℕ → List ℕ
  whole_check t nonce aad text = xored (last_value t nonce aad text) (e (counter_block nonce 0))

  unfoldable pub masked_from : List ℕ → ℕ → List ℕ → List ℕ
  masked_from nonce i xs = xored xs (keystream e nonce ((length xs + 15) / 16) i)

  abbrev pub first_masked : List ℕ → ℕ → List ℕ → List ℕ
  first_masked nonce n out = over (masked e nonce (take n out)) out

  abbrev pub unmasked : List ℕ → ℕ → List ℕ → List ℕ → List ℕ
  unmasked nonce n y out = over (masked e nonce (take n y)) out

  abbrev pub check_placed : ℕ → List ℕ → List ℕ → ℕ → List ℕ → List ℕ
  check_placed t nonce aad n out = placed n (check_value e t nonce aad (take n out)) out
