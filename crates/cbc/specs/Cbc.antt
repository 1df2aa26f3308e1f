-- Cipher block chaining, as SP 800-38A has it (section 6.2), for blocks of 16 bytes.
-- P₁ P₂ … are the blocks of the plaintext, C₁ C₂ … those of the ciphertext, IV is the initialization vector, and ⊕ is `xored`.
--   whole_blocks x                    whether x has a whole number of blocks
--   enciphered_blocks ciph n chain x  the first n blocks of x enciphered: Cⱼ = CIPH(Pⱼ ⊕ Cⱼ₋₁), and C₁ = CIPH(P₁ ⊕ chain)
--   deciphered_blocks inv n chain x   the first n blocks of x deciphered: Pⱼ = CIPH⁻¹(Cⱼ) ⊕ Cⱼ₋₁, and P₁ = CIPH⁻¹(C₁) ⊕ chain
--   cbc_enciphered ciph iv x          the ciphertext of the plaintext x, ciph being the forward cipher function under the key
--   cbc_deciphered inv iv x           the plaintext of the ciphertext x, inv being the inverse cipher function under the key
--   last_block chain x                the last block of the ciphertext x, or chain where x is empty: what the next text is chained to
use Rattle.std.specs.Prelude.{ℕ, zero, suc, ◌/◌, ◌%◌, Bool, List, [], ◌++◌, length, take, drop, ◌==◌}
use Rattle.block.specs.Xor.{xored}

abbrev pub whole_blocks : List ℕ → Bool
whole_blocks x = length x % 16 == 0

abbrev pub enciphered_blocks : (List ℕ → List ℕ) → ℕ → List ℕ → List ℕ → List ℕ
enciphered_blocks ciph zero chain x = []
enciphered_blocks ciph (suc n) chain x =
    let c = ciph (xored (take 16 x) chain) in
    c ++ enciphered_blocks ciph n c (drop 16 x)

abbrev pub deciphered_blocks : (List ℕ → List ℕ) → ℕ → List ℕ → List ℕ → List ℕ
deciphered_blocks inv zero chain x = []
deciphered_blocks inv (suc n) chain x =
    let c = take 16 x in
    xored (inv c) chain ++ deciphered_blocks inv n c (drop 16 x)

abbrev pub cbc_enciphered : (List ℕ → List ℕ) → List ℕ → List ℕ → List ℕ
cbc_enciphered ciph iv x = enciphered_blocks ciph (length x / 16) iv x

abbrev pub cbc_deciphered : (List ℕ → List ℕ) → List ℕ → List ℕ → List ℕ
cbc_deciphered inv iv x = deciphered_blocks inv (length x / 16) iv x

abbrev pub last_block : List ℕ → List ℕ → List ℕ
last_block chain x = drop (length x) (chain ++ x)
