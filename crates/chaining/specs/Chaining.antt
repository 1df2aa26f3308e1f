-- The padding of a message and the chaining of its blocks, as FIPS 180-4 has them for blocks of 64 bytes (sections 5.1.1, 5.2.1 and 6).
-- A hash value is a list of words of 32 bits.
--   Compression         what f is below: f v block is the hash value after v, once the block is taken in
--   zero_count n        how many zeros follow the byte 80h after a message of n bytes: the least count with which 8 bytes more end a block
--   padding n           what follows a message of n bytes: 80h, zeros, and its length in bits, modulo 2 ^ 64, in 8 bytes
--   padded n xs         the end xs of a message, of which n bytes come before xs, with its padding
--   marked n block      the block in which the message ends after n bytes: those, 80h and zeros
--   chained f n v xs    the hash value after v, once the first n blocks of xs are taken in
--   concluded f n v xs  the hash value after v, once all blocks of padded n xs are taken in
--   hashed f v message  the hash value of a message, v being the initial one
--   digest_after f value chain x  the digest that a chain comes to once x more has been absorbed: `value` is the hash value of its rounds
use Rattle.std.specs.Prelude.{ℕ, zero, suc, ◌+◌, ◌-◌, ◌*◌, ◌/◌, ◌%◌, ◌^◌, List, ◌∷◌, ◌++◌, length, take, drop}
use Rattle.octets.specs.Numbers.{big_endian}
use Rattle.octets.specs.Octets.{zeros}
use Rattle.chaining.specs.Words.{word_bytes}
use Rattle.chaining.specs.declared.chaining.Chain.{Chain}

abbrev pub Compression : Type 0
Compression = List ℕ → List ℕ → List ℕ

abbrev pub zero_count : ℕ → ℕ
zero_count n = (119 - n % 64) % 64

unfoldable pub padding : ℕ → List ℕ
padding n = 0x80 ∷ (zeros (zero_count n) ++ big_endian 8 (8 * n % 2 ^ 64))

abbrev pub padded : ℕ → List ℕ → List ℕ
padded n xs = xs ++ padding (n + length xs)

abbrev pub marked : ℕ → List ℕ → List ℕ
marked n block = take n block ++ (0x80 ∷ zeros (63 - n))

unfoldable pub chained : Compression → ℕ → List ℕ → List ℕ → List ℕ
chained f zero v xs = v
chained f (suc n) v xs = chained f n (f v (take 64 xs)) (drop 64 xs)

unfoldable pub concluded : Compression → ℕ → List ℕ → List ℕ → List ℕ
concluded f n v xs = chained f (length (padded n xs) / 64) v (padded n xs)

abbrev pub hashed : Compression → List ℕ → List ℕ → List ℕ
hashed f v message = concluded f 0 v message

abbrev pub digest_after : {R : Type 0} → Compression → (R → List ℕ) → Chain R → List ℕ → List ℕ
digest_after f value chain x =
    let filled = chain.total % 64 in
    word_bytes (concluded f (chain.total - filled) (value chain.rounds) (take filled chain.block ++ x))
