-- Bytes in counter mode, block by block. Assumes nothing.
use Rattle.std.proofs.Common.{◌≡◌, ℕ, zero, suc, ◌+◌, ◌-◌, ◌*◌, ◌/◌, ◌<◌, ◌≤◌, min, List, [], ◌∷◌, ◌++◌, length, take, drop, sym, refl, ap, ◌∙◌, ⊎_elim, append_assoc, arith}
use borrow.Rule.Slice.PartMut.{put_mid}
use lib.Bits.{bit_xor}
use Rattle.std.proofs.lemmas.List.{append-nil, length-append, length-take, length-drop, drop-drop, take-append-drop, take_all, drop_all}
use Rattle.std.proofs.lemmas.Slice.{take-put_mid, drop-put_mid}
use Rattle.std.proofs.lemmas.Bool.{cases_lt}
use Rattle.block.specs.Xor.{xored}
use Rattle.block.proofs.Sums.{xored-nil, length-xored}
use Rattle.ccm.specs.Ccm.{counter_block, keystream, masked}
use Rattle.ccm.specs.Parts.{masked_from}
use Rattle.ccm.proofs.Blockwise.{parts-suc, take_min}

xored-append : (us bs xs ys : List ℕ) → length us ≡ length bs → xored (us ++ xs) (bs ++ ys) ≡ xored us bs ++ xored xs ys
xored-append [] [] xs ys h = refl
xored-append [] (b ∷ bs) xs ys h = absurd (omega arith)
xored-append (u ∷ us) [] xs ys h = absurd (omega arith)
xored-append (u ∷ us) (b ∷ bs) xs ys h = ap (λ zs. bit_xor u b ∷ zs) (xored-append us bs xs ys (omega arith))

-- what lies past xs adds nothing to it
xored-short : (xs bs ys : List ℕ) → length xs ≤ length bs → xored xs (bs ++ ys) ≡ xored xs bs
xored-short [] bs ys h = refl
xored-short (x ∷ xs) [] ys h = absurd (omega arith)
xored-short (x ∷ xs) (b ∷ bs) ys h = ap (λ zs. bit_xor x b ∷ zs) (xored-short xs bs ys (omega arith))

pub take-xored : (n : ℕ) (xs ys : List ℕ) → take n (xored xs ys) ≡ xored (take n xs) ys
take-xored zero xs ys = refl
take-xored (suc n) [] ys = refl
take-xored (suc n) (x ∷ xs) [] = sym (xored-nil (take (suc n) (x ∷ xs)))
take-xored (suc n) (x ∷ xs) (y ∷ ys) = ap (λ zs. bit_xor x y ∷ zs) (take-xored n xs ys)

-- a block, and what follows it
xored-block : (xs bs ys : List ℕ) → length bs ≡ 16 → xored xs (bs ++ ys) ≡ xored (take 16 xs) bs ++ xored (drop 16 xs) ys
xored-block xs bs ys h =
    ⊎_elim
    (λ (l : length xs < 16). xored-short xs bs ys (omega arith)
    ∙ (ap (λ zs. xored zs bs) (sym (take_all 16 xs (omega arith)))
    ∙ (sym (append-nil (xored (take 16 xs) bs)) ∙ ap (λ zs. xored (take 16 xs) bs ++ xored zs ys) (sym (drop_all 16 xs (omega arith))))))
    (λ (l : 16 ≤ length xs). ap (λ zs. xored zs (bs ++ ys)) (sym (take-append-drop 16 xs))
    ∙ xored-append (take 16 xs) bs (drop 16 xs) ys (simp length-take (omega arith)))
    (cases_lt (length xs) 16)

module _ (e : List ℕ → List ℕ) (nonce : List ℕ) (long : (i : ℕ) → length (e (counter_block nonce i)) ≡ 16) where
  masked_from_more : (i : ℕ) (xs : List ℕ) → 0 < length xs
      → masked_from e nonce i xs ≡ xored (take 16 xs) (e (counter_block nonce i)) ++ masked_from e nonce (i + 1) (drop 16 xs)
  unfolding masked_from keystream
  masked_from_more i xs h =
      ap (λ n. xored xs (keystream e nonce n i)) (parts-suc (length xs) h)
      ∙ (xored-block xs (e (counter_block nonce i)) (keystream e nonce ((length xs - 16 + 15) / 16) (i + 1)) (long i)
      ∙ ap (λ n. xored (take 16 xs) (e (counter_block nonce i)) ++ xored (drop 16 xs) (keystream e nonce ((n + 15) / 16) (i + 1)))
      (sym (length-drop 16 xs)))

  -- the step of a loop: the part up to z is masked with the number i + 1, and what is left gives the same
  pub masked_step : (i z : ℕ) (part xs all : List ℕ) → z ≡ min (length xs) (16 * (i + 1)) → 16 * i < length xs
      → part ≡ xored (take (z - 16 * i) (drop (16 * i) xs)) (e (counter_block nonce (i + 1)))
      → take (16 * i) xs ++ masked_from e nonce (i + 1) (drop (16 * i) xs) ≡ all
      → take (16 * (i + 1)) (put_mid (16 * i) (z - 16 * i) xs part) ++ masked_from e nonce (i + 1 + 1) (drop (16 * (i + 1)) (put_mid (16 * i) (z - 16 * i) xs part)) ≡ all
  masked_step i z part xs all end below is so =
      let a = 16 * i in
      let k = z - 16 * i in
      let x = drop a xs in
      let u = put_mid a k xs part in
      let part_long : length part ≡ k = ap length is ∙ (length-xored (take k x) (e (counter_block nonce (i + 1))) ∙ simp (length-take, length-drop) (omega arith)) in
      let same : length u ≡ length xs = simp (length-append, length-take, length-drop) (omega arith) in
      let front : take (16 * (i + 1)) u ≡ take a xs ++ part = sym (take_min (16 * (i + 1)) z u (omega arith)) ∙ take-put_mid a k xs part z (omega arith) (omega arith) in
      let rest : drop (16 * (i + 1)) u ≡ drop 16 x =
      drop-put_mid a k xs part (16 * (i + 1)) (omega arith) (omega arith) part_long ∙ (ap (λ j. drop j xs) (omega arith) ∙ sym (drop-drop 16 a xs)) in
      let block : part ≡ xored (take 16 x) (e (counter_block nonce (i + 1))) =
      is ∙ ap (λ y. xored y (e (counter_block nonce (i + 1)))) (take_min 16 k x (simp length-drop (omega arith))) in
      rw (front, rest)
      (append_assoc (take a xs) part (masked_from e nonce (i + 1 + 1) (drop 16 x))
      ∙ (ap (λ y. take a xs ++ (y ++ masked_from e nonce (i + 1 + 1) (drop 16 x))) block
      ∙ (ap (λ y. take a xs ++ y) (sym (masked_from_more (i + 1) x (simp length-drop (omega arith)))) ∙ so)))

pub masked_all : (e : List ℕ → List ℕ) (nonce : List ℕ) (i j : ℕ) (xs all : List ℕ) → length xs ≤ 16 * i
    → take (16 * i) xs ++ masked_from e nonce j (drop (16 * i) xs) ≡ all → xs ≡ all
unfolding masked_from
masked_all e nonce i j xs all h so = sym (append-nil xs) ∙ (rw (take_all (16 * i) xs h, drop_all (16 * i) xs h) at so)

pub masked_is : (e : List ℕ → List ℕ) (nonce xs : List ℕ) → masked_from e nonce 1 xs ≡ masked e nonce xs
unfolding masked_from masked
masked_is e nonce xs = refl
