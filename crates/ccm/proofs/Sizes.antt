-- How long what CCM gives is, where the forward cipher function gives blocks. Assumes nothing.
use Rattle.std.proofs.Common.{◌≡◌, ℕ, zero, suc, ◌+◌, ◌/◌, ◌≤◌, List, length, take, drop, sym, ap, ◌∙◌, arith}
use Rattle.std.proofs.lemmas.List.{length-append, length-take}
use Rattle.block.specs.Xor.{xored}
use Rattle.block.proofs.Sums.{length-xored}
use Rattle.ccm.specs.Ccm.{chained, first_block, flags, masked, check_value, sealed, counter_block, keystream, whole}
use Rattle.ccm.specs.Parts.{taken_in, associated, last_value, whole_check}
use Rattle.ccm.proofs.BlockBytes.{length-headed}
use Rattle.ccm.proofs.Chains.{check_is}

module _ (e : List ℕ → List ℕ) where
  pub length-masked : (nonce xs : List ℕ) → length (masked e nonce xs) ≡ length xs
  unfolding masked
  length-masked nonce xs = length-xored xs (keystream e nonce ((length xs + 15) / 16) 1)

  module _ (keeps : (b : List ℕ) → length b ≡ 16 → length (e b) ≡ 16) where
    length-chained : (n : ℕ) (x xs : List ℕ) → length x ≡ 16 → length (chained e n x xs) ≡ 16
    unfolding chained
    length-chained zero x xs h = h
    length-chained (suc n) x xs h = length-chained n (e (xored x (take 16 xs))) (drop 16 xs) (keeps (xored x (take 16 xs)) (length-xored x (take 16 xs) ∙ h))

    length-taken_in : (x xs : List ℕ) → length x ≡ 16 → length (taken_in e x xs) ≡ 16
    unfolding taken_in
    length-taken_in x xs h = length-chained (length (whole xs) / 16) x (whole xs) h

    length-whole_check : (t : ℕ) (nonce aad text : List ℕ) → length nonce ≤ 15 → length (whole_check e t nonce aad text) ≡ 16
    unfolding first_block
    length-whole_check t nonce aad text h =
        let start = e (first_block t nonce aad (length text)) in
        length-xored (last_value e t nonce aad text) (e (counter_block nonce 0))
        ∙ length-taken_in (taken_in e start (associated aad)) text
        (length-taken_in start (associated aad)
        (keeps (first_block t nonce aad (length text)) (length-headed (flags t nonce aad) (length text) nonce h)))

    pub length-check_value : (t : ℕ) (nonce aad text : List ℕ) → length nonce ≤ 15 → t ≤ 16 → length (check_value e t nonce aad text) ≡ t
    length-check_value t nonce aad text h l =
        let long = length-whole_check t nonce aad text h in
        ap length (sym (check_is e t nonce aad text)) ∙ (length-take t (whole_check e t nonce aad text) ∙ omega arith)

    pub length-sealed : (t : ℕ) (nonce aad text : List ℕ) → length nonce ≤ 15 → t ≤ 16 → length (sealed e t nonce aad text) ≡ length text + t
    unfolding sealed
    length-sealed t nonce aad text h l =
        let long = length-masked nonce text in
        let check = length-check_value t nonce aad text h l in
        length-append (masked e nonce text) (check_value e t nonce aad text) ∙ omega arith
