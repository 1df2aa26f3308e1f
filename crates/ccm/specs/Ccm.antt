-- CCM (SP 800-38C, RFC 3610): a text is authenticated by a chain of blocks and enciphered in counter mode.
-- e is the forward cipher function under a key, from a block of 16 bytes to another; t is the length of the check value.
--   whole xs                   xs, then as few zeros as make whole blocks
--   chained e n x xs           the chaining value after x, once n blocks of xs are taken in: each is added to it, and the sum enciphered
--   length_size nonce          the number of bytes that the text's length and the counter have: nonce and these make 15
--   flags t nonce aad          the first byte of B₀
--   first_block t nonce aad n  B₀: flags, nonce and the text's length n
--   encoded_length n           what comes before n bytes of associated data
--   blocks aad text            B₁ and what follows: associated data behind its length, then the text, each in whole blocks
--   tag e t nonce aad text     the first t bytes of the last chaining value
--   counter_block nonce i      the counter block Ctr of the number i
--   keystream e nonce n i      n enciphered counter blocks from the number i on
--   masked e nonce xs          xs in counter mode, from the number 1 on
--   sealed, opened             generation-encryption and decryption-verification
use Rattle.std.specs.Prelude.{ℕ, zero, suc, ◌+◌, ◌-◌, ◌*◌, ◌/◌, ◌%◌, ◌^◌, cond, List, [], ◌∷◌, ◌++◌, length, take, drop, Some, None, Option, ◌==◌, nat_lt}
use Rattle.octets.specs.Numbers.{big_endian}
use Rattle.octets.specs.Octets.{zeros, same}
use Rattle.block.specs.Xor.{xored}

unfoldable pub whole : List ℕ → List ℕ
whole xs = xs ++ zeros ((16 - length xs % 16) % 16)

abbrev pub length_size : List ℕ → ℕ
length_size nonce = 15 - length nonce

-- 64 where there is associated data, the check value's length in bits 3 to 5, and the length's size less one
unfoldable pub flags : ℕ → List ℕ → List ℕ → ℕ
flags t nonce aad = cond (length aad == 0) 0 64 + 8 * ((t - 2) / 2) + (length_size nonce - 1)

unfoldable pub first_block : ℕ → List ℕ → List ℕ → ℕ → List ℕ
first_block t nonce aad n = flags t nonce aad ∷ (nonce ++ big_endian (length_size nonce) n)

unfoldable pub encoded_length : ℕ → List ℕ
encoded_length n =
    cond (n == 0) []
    (cond (nat_lt n 0xff00) (big_endian 2 n)
    (cond (nat_lt n (2 ^ 32)) (0xff ∷ 0xfe ∷ big_endian 4 n)
    (0xff ∷ 0xff ∷ big_endian 8 n)))

unfoldable pub blocks : List ℕ → List ℕ → List ℕ
blocks aad text = whole (encoded_length (length aad) ++ aad) ++ whole text

unfoldable pub counter_block : List ℕ → ℕ → List ℕ
counter_block nonce i = (length_size nonce - 1) ∷ (nonce ++ big_endian (length_size nonce) i)

module _ (e : List ℕ → List ℕ) where
  unfoldable pub chained : ℕ → List ℕ → List ℕ → List ℕ
  chained zero x xs = x
  chained (suc n) x xs = chained n (e (xored x (take 16 xs))) (drop 16 xs)

  unfoldable pub tag : ℕ → List ℕ → List ℕ → List ℕ → List ℕ
  tag t nonce aad text =
      take t (chained (length (blocks aad text) / 16) (e (first_block t nonce aad (length text))) (blocks aad text))

  unfoldable pub keystream : List ℕ → ℕ → ℕ → List ℕ
  keystream nonce zero i = []
  keystream nonce (suc n) i = e (counter_block nonce i) ++ keystream nonce n (i + 1)

  unfoldable pub masked : List ℕ → List ℕ → List ℕ
  masked nonce xs = xored xs (keystream nonce ((length xs + 15) / 16) 1)

  -- the check value: the tag, enciphered with the counter block of the number 0
  unfoldable pub check_value : ℕ → List ℕ → List ℕ → List ℕ → List ℕ
  check_value t nonce aad text = xored (tag t nonce aad text) (e (counter_block nonce 0))

  unfoldable pub sealed : ℕ → List ℕ → List ℕ → List ℕ → List ℕ
  sealed t nonce aad text = masked nonce text ++ check_value t nonce aad text

  abbrev pub opened_at : ℕ → ℕ → List ℕ → List ℕ → List ℕ → Option (List ℕ)
  opened_at n t nonce aad y =
      cond (same (drop n y) (check_value t nonce aad (masked nonce (take n y)))) (Some (masked nonce (take n y))) None

  -- y is a masked text and behind it a check value
  unfoldable pub opened : ℕ → List ℕ → List ℕ → List ℕ → Option (List ℕ)
  opened t nonce aad y = opened_at (length y - t) t nonce aad y
