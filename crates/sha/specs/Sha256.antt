-- SHA-256's compression function, as FIPS 180-4 defines it (sections 4.1.2, 4.2.2, 5.3.3 and 6.2.2).
-- A block is 64 bytes; a hash value and the working variables a to h are eight words.
--   Σ₀ Σ₁ σ₀ σ₁          the four functions that mix the bits of one word
--   K                    the constants of the 64 rounds
--   initial              the initial hash value
--   expanded w t         the word at place t of the message schedule, from 16 on, w being the words before it
--   extended t w         the words w with the one at place t written so
--   scheduled block w t  the word at place t of the message schedule of a block, w being the words before it
--   W block              the message schedule of a block, 64 words
--   T₁, T₂               the two sums of a round
--   round k w v          the working variables v after one round, with its constant k and its word w of the schedule
--   round_at w t v       the working variables v after the round t, with the schedule w
--   rounds w v           the working variables v after all 64 rounds, with the schedule w
--   added v u            the words of v plus those of u, place by place
--   compressed v block   the hash value after v, once the block is taken in
use Rattle.std.specs.Prelude.{ℕ, ◌-◌, cond, List, [], ◌∷◌, map, bit_xor, nat_lt, slice_index, slice_index_or, slice_set}
use Rattle.std.specs.List.{range_with_len}
use Rattle.chaining.specs.Turns.{built, turns}
use Rattle.chaining.specs.Words.{◌⊞◌, ROTR, SHR, Ch, Maj, block_word}

abbrev pub Σ₀ : ℕ → ℕ
Σ₀ x = bit_xor (bit_xor (ROTR 2 x) (ROTR 13 x)) (ROTR 22 x)

abbrev pub Σ₁ : ℕ → ℕ
Σ₁ x = bit_xor (bit_xor (ROTR 6 x) (ROTR 11 x)) (ROTR 25 x)

abbrev pub σ₀ : ℕ → ℕ
σ₀ x = bit_xor (bit_xor (ROTR 7 x) (ROTR 18 x)) (SHR 3 x)

abbrev pub σ₁ : ℕ → ℕ
σ₁ x = bit_xor (bit_xor (ROTR 17 x) (ROTR 19 x)) (SHR 10 x)

abbrev pub K : List ℕ
K =
    0x428a2f98 ∷ 0x71374491 ∷ 0xb5c0fbcf ∷ 0xe9b5dba5 ∷ 0x3956c25b ∷ 0x59f111f1 ∷ 0x923f82a4 ∷ 0xab1c5ed5 ∷
    0xd807aa98 ∷ 0x12835b01 ∷ 0x243185be ∷ 0x550c7dc3 ∷ 0x72be5d74 ∷ 0x80deb1fe ∷ 0x9bdc06a7 ∷ 0xc19bf174 ∷
    0xe49b69c1 ∷ 0xefbe4786 ∷ 0x0fc19dc6 ∷ 0x240ca1cc ∷ 0x2de92c6f ∷ 0x4a7484aa ∷ 0x5cb0a9dc ∷ 0x76f988da ∷
    0x983e5152 ∷ 0xa831c66d ∷ 0xb00327c8 ∷ 0xbf597fc7 ∷ 0xc6e00bf3 ∷ 0xd5a79147 ∷ 0x06ca6351 ∷ 0x14292967 ∷
    0x27b70a85 ∷ 0x2e1b2138 ∷ 0x4d2c6dfc ∷ 0x53380d13 ∷ 0x650a7354 ∷ 0x766a0abb ∷ 0x81c2c92e ∷ 0x92722c85 ∷
    0xa2bfe8a1 ∷ 0xa81a664b ∷ 0xc24b8b70 ∷ 0xc76c51a3 ∷ 0xd192e819 ∷ 0xd6990624 ∷ 0xf40e3585 ∷ 0x106aa070 ∷
    0x19a4c116 ∷ 0x1e376c08 ∷ 0x2748774c ∷ 0x34b0bcb5 ∷ 0x391c0cb3 ∷ 0x4ed8aa4a ∷ 0x5b9cca4f ∷ 0x682e6ff3 ∷
    0x748f82ee ∷ 0x78a5636f ∷ 0x84c87814 ∷ 0x8cc70208 ∷ 0x90befffa ∷ 0xa4506ceb ∷ 0xbef9a3f7 ∷ 0xc67178f2 ∷ []

abbrev pub initial : List ℕ
initial =
    0x6a09e667 ∷ 0xbb67ae85 ∷ 0x3c6ef372 ∷ 0xa54ff53a ∷ 0x510e527f ∷ 0x9b05688c ∷ 0x1f83d9ab ∷ 0x5be0cd19 ∷ []

abbrev pub expanded : List ℕ → ℕ → ℕ
expanded w t = σ₁ (slice_index w (t - 2)) ⊞ slice_index_or w (t - 7) 0 ⊞ σ₀ (slice_index w (t - 15)) ⊞ slice_index_or w (t - 16) 0

abbrev pub extended : ℕ → List ℕ → List ℕ
extended t w = slice_set w t (expanded w t)

abbrev pub scheduled : List ℕ → List ℕ → ℕ → ℕ
scheduled block w t =
    cond (nat_lt t 16) (block_word block t)
    (σ₁ (slice_index w (t - 2)) ⊞ slice_index_or w (t - 7) 0 ⊞ σ₀ (slice_index w (t - 15)) ⊞ slice_index_or w (t - 16) 0)

abbrev pub W : List ℕ → List ℕ
W block = built (scheduled block) 64

abbrev pub T₁ : (e f g h k w : ℕ) → ℕ
T₁ e f g h k w = h ⊞ Σ₁ e ⊞ Ch e f g ⊞ k ⊞ w

abbrev pub T₂ : (a b c : ℕ) → ℕ
T₂ a b c = Σ₀ a ⊞ Maj a b c

abbrev pub round : ℕ → ℕ → List ℕ → List ℕ
round k w v =
    let a = slice_index_or v 0 0 in
    let b = slice_index_or v 1 0 in
    let c = slice_index_or v 2 0 in
    let d = slice_index_or v 3 0 in
    let e = slice_index_or v 4 0 in
    let f = slice_index_or v 5 0 in
    let g = slice_index_or v 6 0 in
    let h = slice_index_or v 7 0 in
    let t₁ = T₁ e f g h k w in
    let t₂ = T₂ a b c in
    (t₁ ⊞ t₂) ∷ a ∷ b ∷ c ∷ (d ⊞ t₁) ∷ e ∷ f ∷ g ∷ []

abbrev pub round_at : List ℕ → ℕ → List ℕ → List ℕ
round_at w t v = round (slice_index K t) (slice_index w t) v

abbrev pub rounds : List ℕ → List ℕ → List ℕ
rounds w v = turns (round_at w) 64 v

abbrev pub added : List ℕ → List ℕ → List ℕ
added v u = map (λ i. slice_index_or v i 0 ⊞ slice_index_or u i 0) (range_with_len 0 8)

unfoldable pub compressed : List ℕ → List ℕ → List ℕ
compressed v block = added v (rounds (W block) v)
