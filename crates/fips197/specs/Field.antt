-- Bytes as elements of the field GF(2^8), as FIPS 197 has them (section 4): the bits of a byte are the coefficients of a polynomial.
--   bit i b      the bit at place i of b, place 0 being the least significant
--   xtime b      b times x, modulo x^8 + x^4 + x^3 + x + 1, whose byte without x^8 is 1Bh
--   times n c b  the sum of b times x^i, over the places i below n at which c has a 1
--   c • b        the product of two bytes
--   powers b n   the product of b^2, b^4, b^8 and so on, n of them
--   inverse b    the multiplicative inverse of b, which is b^254, as 254 is 2 + 4 + 8 + 16 + 32 + 64 + 128; zero has zero
use Rattle.std.specs.Prelude.{ℕ, zero, suc, ◌*◌, ◌/◌, ◌%◌, ◌^◌, cond, ◌==◌, bit_xor}

abbrev pub bit : ℕ → ℕ → ℕ
bit i b = b / 2 ^ i % 2

unfoldable pub xtime : ℕ → ℕ
xtime b = bit_xor (b * 2 % 256) (bit 7 b * 0x1b)

abbrev pub times : ℕ → ℕ → ℕ → ℕ
times zero c b = 0
times (suc n) c b = bit_xor (cond (c % 2 == 1) b 0) (times n (c / 2) (xtime b))

infixl 7 ◌•◌
unfoldable pub ◌•◌ : ℕ → ℕ → ℕ
c • b = times 8 c b

unfoldable pub powers : ℕ → ℕ → ℕ
powers b zero = 1
powers b (suc n) = let square = b • b in square • powers square n

unfoldable pub inverse : ℕ → ℕ
inverse b = powers b 7
