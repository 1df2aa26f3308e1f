-- The key block: what is written over a block of zeros, and a pad that is put on and taken off.
use Rattle.std.proofs.Common.{◌≡◌, ℕ, ◌-◌, ◌<◌, ◌≤◌, List, ◌++◌, length, drop, ap, ◌∙◌, map-id}
use mathlib.Core.List.{map-map}
use lib.Bits.{bit_xor, xor_assoc, xor_self, xor_zero_r}
use Rattle.std.proofs.lemmas.List.{drop-replicate, length-replicate}
use Rattle.std.proofs.lemmas.Bool.{le-leb, lt-leb}
use Rattle.octets.specs.Octets.{over, zeros}
use Rattle.octets.proofs.Octets.{over-fits}
use Rattle.hmac.specs.Hmac.{padded, key_block}

over_zeros : (xs : List ℕ) (n : ℕ) → length xs ≤ n → over xs (zeros n) ≡ xs ++ zeros (n - length xs)
over_zeros xs n h =
    over-fits xs (zeros n) (simp length-replicate h) ∙ ap (λ zs. xs ++ zs) (drop-replicate (length xs) n 0)

-- the key that fits, copied over a block of zeros
pub short-key :
    (digest : List ℕ → List ℕ) (block : ℕ) (key copied room : List ℕ) → length key ≤ block → copied ≡ key → room ≡ zeros block →
    copied ++ drop (length key) room ≡ key_block digest block key
unfolding key_block
short-key digest block key copied room h is cleared =
    rw (le-leb (length key) block h) (ap (λ ks. ks ++ drop (length key) room) is ∙ ap (λ zs. key ++ drop (length key) zs) cleared ∙ ap (λ zs. key ++ zs) (drop-replicate (length key) block 0))

-- the digest of a longer one
pub long-key :
    (digest : List ℕ → List ℕ) (block : ℕ) (key : List ℕ) → block < length key → length (digest key) ≤ block →
    over (digest key) (zeros block) ≡ key_block digest block key
unfolding key_block
long-key digest block key h s = rw (lt-leb (length key) block h) (over_zeros (digest key) block s)

pub unpadded : (pad : ℕ) (xs : List ℕ) → padded pad (padded pad xs) ≡ xs
unpadded pad xs =
    map-map (λ x. bit_xor x pad) (λ x. bit_xor x pad) xs ∙ simp (xor_assoc, xor_self, xor_zero_r) (map-id xs)
