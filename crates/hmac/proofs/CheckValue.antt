-- The check value: what the two hashes come to, how long it is, and that it is bytes.
use Rattle.std.proofs.Common.{◌≡◌, ℕ, List, ◌++◌, length, ap, ◌∙◌}
use Rattle.std.proofs.lemmas.List.{length-replicate}
use Rattle.octets.specs.Octets.{Octets, over, zeros}
use Rattle.octets.proofs.Octets.{over_all}
use Rattle.hmac.specs.Hmac.{ipad, opad, padded, key_block, hmac}

-- `sized` and `bytes` are laws of the hash
pub length-hmac :
    (digest : List ℕ → List ℕ) (block size : ℕ) (sized : (x : List ℕ) → length (digest x) ≡ size) (key message : List ℕ) →
    length (hmac digest block key message) ≡ size
unfolding hmac
length-hmac digest block size sized key message = sized _

pub octets-hmac :
    (digest : List ℕ → List ℕ) (block : ℕ) (bytes : (x : List ℕ) → Octets (digest x)) (key message : List ℕ) →
    Octets (hmac digest block key message)
unfolding hmac
octets-hmac digest block bytes key message = bytes _

-- two hashes that have absorbed the key block under its pads
pub keyed :
    (digest inner outer : List ℕ → List ℕ) (block size : ℕ) (key : List ℕ) →
    ((x : List ℕ) → length (digest x) ≡ size) →
    ((x : List ℕ) → inner x ≡ digest (padded ipad (key_block digest block key) ++ x)) →
    ((x : List ℕ) → outer x ≡ digest (padded opad (key_block digest block key) ++ x)) →
    (x : List ℕ) → outer (over (inner x) (zeros size)) ≡ hmac digest block key x
unfolding hmac
keyed digest inner outer block size key sized i o x =
    let n : length (inner x) ≡ length (zeros size) = simp length-replicate (ap length (i x) ∙ sized _) in
    ap outer (over_all (inner x) (zeros size) n ∙ i x) ∙ o (digest (padded ipad (key_block digest block key) ++ x))
