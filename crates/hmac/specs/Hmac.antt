-- HMAC (RFC 2104), over a hash function: the digest of a message, and the number of bytes in a block.
--   ipad, opad                      the bytes 36h and 5Ch
--   padded pad xs                   the exclusive or of each byte of xs with pad
--   short_key digest block key      the key, or its digest where it is longer than a block
--   key_block digest block key      that, with zeros after it up to a whole block
--   hmac digest block key message   H(K XOR opad, H(K XOR ipad, message)), where K is the key block
--   mac_after after size h x        the check value that h comes to once x more has been absorbed: `after` is the meaning
--                                   of its hashes, and the digest of the inner one is passed on in `size` bytes
use Rattle.std.specs.Prelude.{ℕ, ◌-◌, cond, List, ◌++◌, map, length, bit_xor, nat_le}
use Rattle.octets.specs.Octets.{over, zeros}
use Rattle.hmac.specs.declared.hmac.Hmac.{Hmac}

abbrev pub ipad : ℕ
ipad = 0x36

abbrev pub opad : ℕ
opad = 0x5c

abbrev pub padded : ℕ → List ℕ → List ℕ
padded pad xs = map (λ x. bit_xor x pad) xs

abbrev pub short_key : (List ℕ → List ℕ) → ℕ → List ℕ → List ℕ
short_key digest block key = cond (nat_le (length key) block) key (digest key)

unfoldable pub key_block : (List ℕ → List ℕ) → ℕ → List ℕ → List ℕ
key_block digest block key = short_key digest block key ++ zeros (block - length (short_key digest block key))

unfoldable pub hmac : (List ℕ → List ℕ) → ℕ → List ℕ → List ℕ → List ℕ
hmac digest block key message =
    digest (padded opad (key_block digest block key) ++ digest (padded ipad (key_block digest block key) ++ message))

abbrev pub mac_after : {H : Type 0} → (H → List ℕ → List ℕ) → ℕ → Hmac H → List ℕ → List ℕ
mac_after after size h x = after h.outer (over (after h.inner x) (zeros size))
