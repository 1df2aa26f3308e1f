-- Words of 32 bits as numbers, and FIPS 180-4's operations on them (sections 2.2.2, 3.1, 3.2 and 4.1).
--   x ⊞ y               their sum modulo 2 ^ 32
--   complement x        each bit of x turned over
--   ROTR n x            x rotated right by n bits
--   ROTL n x            x rotated left by n bits
--   SHR n x             x shifted right by n bits
--   Ch x y z            at each bit, y's where x has 1, else z's
--   Maj x y z           at each bit, what at least two of the three have
--   block_word block t  the word at place t of a block, its most significant byte first; 0 past the block
--   word_bytes ws       the bytes of words, the most significant of each first
--   added n v u         n words: those of v plus those of u, place by place
use Rattle.std.specs.Prelude.{ℕ, ◌+◌, ◌-◌, ◌*◌, ◌/◌, ◌%◌, ◌^◌, List, [], ◌∷◌, ◌++◌, map, take, drop, bit_and, bit_or, bit_xor, slice_index_or}
use Rattle.std.specs.List.{range_with_len}
use Rattle.octets.specs.Numbers.{big_endian, number}

infixl 6 ◌⊞◌
abbrev pub ◌⊞◌ : ℕ → ℕ → ℕ
x ⊞ y = (x + y) % 2 ^ 32

abbrev pub complement : ℕ → ℕ
complement x = (2 ^ 32 - 1) - x

abbrev pub ROTR : ℕ → ℕ → ℕ
ROTR n x = bit_or (x / 2 ^ n) ((x * 2 ^ (32 - n)) % 2 ^ 32)

abbrev pub ROTL : ℕ → ℕ → ℕ
ROTL n x = bit_or ((x * 2 ^ n) % 2 ^ 32) (x / 2 ^ (32 - n))

abbrev pub SHR : ℕ → ℕ → ℕ
SHR n x = x / 2 ^ n

abbrev pub Ch : ℕ → ℕ → ℕ → ℕ
Ch x y z = bit_xor (bit_and x y) (bit_and (complement x) z)

abbrev pub Maj : ℕ → ℕ → ℕ → ℕ
Maj x y z = bit_xor (bit_xor (bit_and x y) (bit_and x z)) (bit_and y z)

unfoldable pub block_word : List ℕ → ℕ → ℕ
block_word block t = number (take 4 (drop (4 * t) block))

unfoldable pub word_bytes : List ℕ → List ℕ
word_bytes [] = []
word_bytes (w ∷ ws) = big_endian 4 w ++ word_bytes ws

abbrev pub added : ℕ → List ℕ → List ℕ → List ℕ
added n v u = map (λ i. slice_index_or v i 0 ⊞ slice_index_or u i 0) (range_with_len 0 n)
