-- SHA-1's compression function, as FIPS 180-4 defines it (sections 4.1.1, 4.2.1, 5.3.1 and 6.1.2).
-- A block is 64 bytes; a hash value and the working variables a to e are five words. The 80 rounds are four quarters of 20.
--   Parity x y z         at each bit, 1 where an odd number of the three have 1
--   f quarter x y z      the function of a quarter of the rounds: Ch, Parity, Maj, and Parity again
--   K                    the constants of the four quarters
--   IsQuarter q mixed k  whether a quarter has the function of which `mixed` says what it may answer, and the constant k
--   initial              the initial hash value
--   expanded w t         the word at place t of the message schedule, from 16 on, w being the words before it
--   scheduled block w t  the word at place t of the message schedule of a block, w being the words before it
--   W block              the message schedule of a block, 80 words
--   round quarter w v    the working variables v after one round of a quarter, with its word w of the schedule
--   round_at w t v       the working variables v after the round t, which is of the quarter t / 20, with the schedule w
--   rounds w v           the working variables v after all 80 rounds, with the schedule w
--   compressed v block   the hash value after v, once the block is taken in
use Rattle.std.specs.Prelude.{◌≡◌, ℕ, ◌-◌, ◌/◌, cond, List, [], ◌∷◌, ◌==◌, bit_xor, nat_lt, slice_index, slice_index_or}
use Rattle.chaining.specs.Turns.{built, turns}
use Rattle.chaining.specs.Words.{◌⊞◌, ROTL, Ch, Maj, block_word, added}

abbrev pub Parity : ℕ → ℕ → ℕ → ℕ
Parity x y z = bit_xor (bit_xor x y) z

abbrev pub f : ℕ → ℕ → ℕ → ℕ → ℕ
f quarter x y z = cond (quarter == 0) (Ch x y z) (cond (quarter == 2) (Maj x y z) (Parity x y z))

abbrev pub K : List ℕ
K = 0x5a827999 ∷ 0x6ed9eba1 ∷ 0x8f1bbcdc ∷ 0xca62c1d6 ∷ []

abbrev pub IsQuarter : ℕ → (ℕ → ℕ → ℕ → ℕ → Type 0) → ℕ → Type 0
IsQuarter quarter mixed constant = ((x y z r : ℕ) → mixed x y z r → r ≡ f quarter x y z) × (constant ≡ slice_index K quarter)

abbrev pub initial : List ℕ
initial = 0x67452301 ∷ 0xefcdab89 ∷ 0x98badcfe ∷ 0x10325476 ∷ 0xc3d2e1f0 ∷ []

abbrev pub expanded : List ℕ → ℕ → ℕ
expanded w t = ROTL 1 (bit_xor (bit_xor (bit_xor (slice_index w (t - 3)) (slice_index w (t - 8))) (slice_index w (t - 14))) (slice_index w (t - 16)))

abbrev pub scheduled : List ℕ → List ℕ → ℕ → ℕ
scheduled block w t =
    cond (nat_lt t 16) (block_word block t)
    (ROTL 1 (bit_xor (bit_xor (bit_xor (slice_index w (t - 3)) (slice_index w (t - 8))) (slice_index w (t - 14))) (slice_index w (t - 16))))

abbrev pub W : List ℕ → List ℕ
W block = built (scheduled block) 80

abbrev pub round : ℕ → ℕ → List ℕ → List ℕ
round quarter w v =
    let a = slice_index_or v 0 0 in
    let b = slice_index_or v 1 0 in
    let c = slice_index_or v 2 0 in
    let d = slice_index_or v 3 0 in
    let e = slice_index_or v 4 0 in
    (ROTL 5 a ⊞ f quarter b c d ⊞ e ⊞ slice_index_or K quarter 0 ⊞ w) ∷ a ∷ ROTL 30 b ∷ c ∷ d ∷ []

abbrev pub round_at : List ℕ → ℕ → List ℕ → List ℕ
round_at w t v = round (t / 20) (slice_index w t) v

abbrev pub rounds : List ℕ → List ℕ → List ℕ
rounds w v = turns (round_at w) 80 v

unfoldable pub compressed : List ℕ → List ℕ → List ℕ
compressed v block = added 5 v (rounds (W block) v)
