-- CCM opens what it sealed to the same text, and what opens was sealed. Assumes nothing.
-- Of the forward cipher function e it is asked only that a block gives 16 values, and for bytes that it gives bytes.
use Rattle.std.proofs.Common.{◌≡◌, ℕ, zero, suc, ◌+◌, ◌-◌, ◌/◌, ◌^◌, ◌<◌, ◌≤◌, Bool, true, false, cond, eqb, ltb, List, ◌∷◌, ◌++◌, length, take, drop, Some, None, sym, refl, ap, ◌∙◌, subst, arith}
use Rattle.std.proofs.ByRecursion.{All-append, All-take, All-drop}
use Rattle.std.proofs.lemmas.List.{length-append, length-take-le, take_at, drop_at, take-append-drop}
use Rattle.std.proofs.lemmas.Bool.{cond_both}
use Rattle.octets.specs.Numbers.{big_endian}
use Rattle.octets.specs.Octets.{Octets, same}
use Rattle.octets.proofs.BigEndian.{octets-big_endian}
use Rattle.octets.proofs.Octets.{all_replicate, same_refl, same_true}
use Rattle.block.specs.Xor.{xored}
use Rattle.block.proofs.Sums.{length-xored, octets-xored, xored_twice}
use Rattle.ccm.specs.Ccm.{whole, length_size, flags, first_block, encoded_length, blocks, counter_block, chained, tag, keystream, masked, check_value, sealed, opened_at, opened}
use Rattle.ccm.proofs.BlockBytes.{length-headed, length-counter_block}
use Rattle.ccm.proofs.Sizes.{length-masked, length-check_value}

octets-block : (b i : ℕ) (nonce : List ℕ) → b < 256 → Octets nonce → Octets (b ∷ (nonce ++ big_endian (length_size nonce) i))
octets-block b i nonce h n = (h, All-append (λ x. x < 256) nonce (big_endian (length_size nonce) i) n (octets-big_endian (length_size nonce) i))

length-first_block : (t : ℕ) (nonce aad : List ℕ) (n : ℕ) → length nonce ≤ 15 → length (first_block t nonce aad n) ≡ 16
unfolding first_block
length-first_block t nonce aad n h = length-headed (flags t nonce aad) n nonce h

flags_byte : (t : ℕ) (nonce aad : List ℕ) → t ≤ 16 → flags t nonce aad < 256
unfolding flags
flags_byte t nonce aad h =
    let adata : cond (eqb (length aad) 0) 0 64 ≤ 64 = cond_both (eqb (length aad) 0) 0 64 (λ b. b ≤ 64) (λ e. omega arith) (λ e. omega arith) in
    omega arith

octets-first_block : (t : ℕ) (nonce aad : List ℕ) (n : ℕ) → t ≤ 16 → Octets nonce → Octets (first_block t nonce aad n)
unfolding first_block
octets-first_block t nonce aad n h bytes = octets-block (flags t nonce aad) n nonce (flags_byte t nonce aad h) bytes

octets-counter_block : (nonce : List ℕ) (i : ℕ) → Octets nonce → Octets (counter_block nonce i)
unfolding counter_block
octets-counter_block nonce i bytes = octets-block (length_size nonce - 1) i nonce (omega arith) bytes

octets-encoded_length : (n : ℕ) → Octets (encoded_length n)
unfolding encoded_length
octets-encoded_length n =
    cond_both (eqb n 0) _ _ Octets (λ e. tt)
    (λ e. cond_both (ltb n 0xff00) _ _ Octets (λ f. octets-big_endian 2 n)
    (λ f. cond_both (ltb n (2 ^ 32)) _ _ Octets (λ g. (omega arith, (omega arith, octets-big_endian 4 n)))
    (λ g. (omega arith, (omega arith, octets-big_endian 8 n)))))

octets-whole : (xs : List ℕ) → Octets xs → Octets (whole xs)
unfolding whole
octets-whole xs h = All-append (λ x. x < 256) xs _ h (all_replicate (λ x. x < 256) _ 0 (omega arith))

octets-blocks : (aad text : List ℕ) → Octets aad → Octets text → Octets (blocks aad text)
unfolding blocks
octets-blocks aad text a b =
    All-append (λ x. x < 256) _ _
    (octets-whole _ (All-append (λ x. x < 256) (encoded_length (length aad)) aad (octets-encoded_length (length aad)) a))
    (octets-whole text b)

module _ (e : List ℕ → List ℕ) where
  -- counter mode undoes itself
  pub masked_twice : (nonce xs : List ℕ) → masked e nonce (masked e nonce xs) ≡ xs
  unfolding masked
  masked_twice nonce xs =
      let stream : ℕ → List ℕ = λ n. keystream e nonce ((n + 15) / 16) 1 in
      ap (λ n. xored (xored xs (stream (length xs))) (stream n)) (length-xored xs (stream (length xs))) ∙ xored_twice xs (stream (length xs))

  module _ (keeps : (b : List ℕ) → length b ≡ 16 → length (e b) ≡ 16) where
    module _ (t : ℕ) (nonce aad : List ℕ) (short : length nonce ≤ 15) (few : t ≤ 16) where
      pub opened-sealed : (x : List ℕ) → opened e t nonce aad (sealed e t nonce aad x) ≡ Some x
      unfolding opened sealed
      opened-sealed x =
          let y = masked e nonce x in
          let v = check_value e t nonce aad x in
          let text : length (y ++ v) - t ≡ length y = omega (arith, length-append y v, length-check_value e keeps t nonce aad x short few) in
          ap (λ n. opened_at e n t nonce aad (y ++ v)) text
          ∙ rw (take_at y v (length y) refl, drop_at y v (length y) refl, masked_twice nonce x, same_refl v)

    -- bytes
    module _ (gives : (b : List ℕ) → Octets b → length b ≡ 16 → Octets (e b)) where
      octets-chained : (n : ℕ) (x xs : List ℕ) → length x ≡ 16 → Octets x → Octets xs → Octets (chained e n x xs)
      unfolding chained
      octets-chained zero x xs h a b = a
      octets-chained (suc n) x xs h a b =
          let sum = xored x (take 16 xs) in
          let long : length sum ≡ 16 = length-xored x (take 16 xs) ∙ h in
          octets-chained n (e sum) (drop 16 xs) (keeps sum long)
          (gives sum (octets-xored x (take 16 xs) a (All-take (λ k. k < 256) 16 xs b)) long)
          (All-drop (λ k. k < 256) 16 xs b)

      module _ (nonce : List ℕ) (short : length nonce ≤ 15) (nonce-bytes : Octets nonce) where
        octets-keystream : (n i : ℕ) → Octets (keystream e nonce n i)
        unfolding keystream
        octets-keystream zero i = tt
        octets-keystream (suc n) i =
            All-append (λ k. k < 256) _ _
            (gives (counter_block nonce i) (octets-counter_block nonce i nonce-bytes) (length-counter_block nonce i short))
            (octets-keystream n (i + 1))

        pub octets-masked : (x : List ℕ) → Octets x → Octets (masked e nonce x)
        unfolding masked
        octets-masked x h = octets-xored x _ h (octets-keystream ((length x + 15) / 16) 1)

        module _ (t : ℕ) (aad : List ℕ) (few : t ≤ 16) (aad-bytes : Octets aad) where
          octets-tag : (x : List ℕ) → Octets x → Octets (tag e t nonce aad x)
          unfolding tag
          octets-tag x h =
              let first = first_block t nonce aad (length x) in
              let long : length first ≡ 16 = length-first_block t nonce aad (length x) short in
              All-take (λ k. k < 256) t _
              (octets-chained (length (blocks aad x) / 16) (e first) (blocks aad x) (keeps first long)
              (gives first (octets-first_block t nonce aad (length x) few nonce-bytes) long)
              (octets-blocks aad x aad-bytes h))

          pub octets-check_value : (x : List ℕ) → Octets x → Octets (check_value e t nonce aad x)
          unfolding check_value
          octets-check_value x h =
              octets-xored (tag e t nonce aad x) (e (counter_block nonce 0)) (octets-tag x h)
              (gives (counter_block nonce 0) (octets-counter_block nonce 0 nonce-bytes) (length-counter_block nonce 0 short))

          pub octets-sealed : (x : List ℕ) → Octets x → Octets (sealed e t nonce aad x)
          unfolding sealed
          octets-sealed x h = All-append (λ k. k < 256) _ _ (octets-masked x h) (octets-check_value x h)

  -- the text that was found is the masked part, and the check value behind that part is the text's
  found : (t : ℕ) (nonce aad : List ℕ) (n : ℕ) (x y : List ℕ) (b : Bool)
      → same (drop n y) (check_value e t nonce aad (masked e nonce (take n y))) ≡ b
      → cond b (Some (masked e nonce (take n y))) None ≡ Some x
      → (masked e nonce (take n y) ≡ x) × (sealed e t nonce aad x ≡ y)
  unfolding sealed
  found t nonce aad n x y false test is = let z : ◌≡◌ {A = ℕ} 0 1 = cc in absurd (omega arith)
  found t nonce aad n x y true test is =
      let text : masked e nonce (take n y) ≡ x = cc in
      let back : masked e nonce x ≡ take n y = ap (masked e nonce) (sym text) ∙ masked_twice nonce (take n y) in
      let value = same_true (drop n y) (check_value e t nonce aad (masked e nonce (take n y))) test in (
        text,
        ap (λ w. w ++ check_value e t nonce aad x) back
            ∙ (ap (λ w. take n y ++ check_value e t nonce aad w) (sym text) ∙ (ap (λ w. take n y ++ w) (sym value) ∙ take-append-drop n y)),
      )

  module _ (t : ℕ) (nonce aad x y : List ℕ) (opens : opened e t nonce aad y ≡ Some x) where
    parts : (masked e nonce (take (length y - t) y) ≡ x) × (sealed e t nonce aad x ≡ y)
    unfolding opened
    parts = found t nonce aad (length y - t) x y _ refl opens

    pub sealed-opened : sealed e t nonce aad x ≡ y
    sealed-opened = parts.1

    pub length-opened : length x ≡ length y - t
    length-opened = ap length (sym parts.0) ∙ (length-masked e nonce (take (length y - t) y) ∙ length-take-le (length y - t) y (omega arith))

    pub octets-opened : ((zs : List ℕ) → Octets zs → Octets (masked e nonce zs)) → Octets y → Octets x
    octets-opened masks h = subst Octets parts.0 (masks _ (All-take (λ k. k < 256) (length y - t) y h))
