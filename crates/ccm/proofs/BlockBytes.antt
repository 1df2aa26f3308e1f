-- The bytes of the blocks that are made. Assumes nothing.
use Rattle.std.proofs.Common.{◌≡◌, ℕ, zero, suc, ◌+◌, ◌-◌, ◌^◌, ◌<◌, ◌≤◌, min, eqb, ltb, List, [], ◌∷◌, ◌++◌, length, take, drop, sym, refl, ap, ◌∙◌, suc-add, zero-add, arith}
use borrow.Rule.Slice.PartMut.{put_mid, post_of}
use Rattle.std.proofs.lemmas.List.{length-append, length-take, drop-drop, append-nil, nil_from_length}
use Rattle.std.proofs.lemmas.Bool.{ne_eqb, lt-ltb, le-ltb, cond-true, cond-false, cond_both}
use Rattle.octets.specs.Numbers.{big_endian}
use Rattle.octets.specs.Octets.{over, zeros}
use Rattle.octets.proofs.BigEndian.{length-big_endian, big_endian-cons}
use Rattle.octets.proofs.Octets.{length_over, over-fits, placed_part, placed_behind}
use Rattle.ccm.specs.Ccm.{length_size, counter_block, encoded_length}
use Rattle.ccm.specs.Parts.{headed, associated}
use Rattle.ccm.proofs.Blockwise.{take_min, drop_min, take_behind, drop_behind}

pub length-headed : (b i : ℕ) (nonce : List ℕ) → length nonce ≤ 15 → length (headed b nonce i) ≡ 16
length-headed b i nonce h = simp (length-append, length-big_endian) (omega arith)

pub length-counter_block : (nonce : List ℕ) (i : ℕ) → length nonce ≤ 15 → length (counter_block nonce i) ≡ 16
unfolding counter_block
length-counter_block nonce i h = length-headed (length_size nonce - 1) i nonce h

-- the last bytes of a number are the bytes of the number in fewer
last-bytes : (k m i : ℕ) → drop k (big_endian (k + m) i) ≡ big_endian m i
last-bytes zero m i = ap (λ n. big_endian n i) (zero-add m)
last-bytes (suc k) m i =
    ap (λ n. drop (suc k) (big_endian n i)) (suc-add k m) ∙ (ap (drop (suc k)) (big_endian-cons (k + m) i) ∙ last-bytes k m i)

-- the number at the end of a block of zeros, then the nonce over its front, then the first byte
pub headed_is : (b i : ℕ) (nonce name digits : List ℕ) → 7 ≤ length nonce → length nonce ≤ 13 → name ≡ nonce → digits ≡ big_endian 8 i
    → b ∷ (name ++ post_of 1 (1 + length nonce - 1) (zeros 8 ++ (digits ++ []))) ≡ headed b nonce i
headed_is b i nonce name digits least most name-is digits-are =
    let k = length nonce - 7 in
    let size = 15 - length nonce in
    let skip : 1 + length nonce - 1 ≡ 7 + k = omega arith in
    let eight : 8 ≡ k + size = omega arith in
    let behind : drop (7 + k) (zeros 7 ++ digits) ≡ big_endian size i =
    sym (drop-drop k 7 (zeros 7 ++ digits)) ∙ (ap (drop k) (digits-are ∙ ap (λ n. big_endian n i) eight) ∙ last-bytes k size i) in
    rw (name-is, skip, append-nil) (ap (λ z. b ∷ (nonce ++ z)) behind)

-- the length before associated data, in its three forms
pub short-length : (n : ℕ) → 1 ≤ n → n < 0xff00 → encoded_length n ≡ big_endian 2 n
unfolding encoded_length
short-length n h l = cond-false (eqb n 0) _ _ (ne_eqb n 0 (λ z. omega arith)) ∙ cond-true (ltb n 0xff00) _ _ (lt-ltb n 0xff00 l)

pub middle_length : (n : ℕ) → 0xff00 ≤ n → n < 2 ^ 32 → encoded_length n ≡ 0xff ∷ 0xfe ∷ big_endian 4 n
unfolding encoded_length
middle_length n h l =
    cond-false (eqb n 0) _ _ (ne_eqb n 0 (λ z. omega arith))
    ∙ (cond-false (ltb n 0xff00) _ _ (le-ltb n 0xff00 h) ∙ cond-true (ltb n (2 ^ 32)) _ _ (lt-ltb n (2 ^ 32) l))

pub long-length : (n : ℕ) → 2 ^ 32 ≤ n → encoded_length n ≡ 0xff ∷ 0xff ∷ big_endian 8 n
unfolding encoded_length
long-length n h =
    cond-false (eqb n 0) _ _ (ne_eqb n 0 (λ z. omega arith))
    ∙ (cond-false (ltb n 0xff00) _ _ (le-ltb n 0xff00 (omega arith)) ∙ cond-false (ltb n (2 ^ 32)) _ _ (le-ltb n (2 ^ 32) h))

-- k bytes written over the start of a block, and k bytes behind two
pub written : (k : ℕ) (ys zs xs : List ℕ) → length ys ≡ k → k ≤ length xs → ys ≡ zs → ys ++ drop k xs ≡ over zs xs
written k ys zs xs long room is = sym (ap (λ z. over z xs) (sym is) ∙ (over-fits ys xs (omega arith) ∙ rw long refl))

pub written_behind : (a b k : ℕ) (two ys zs xs : List ℕ) → two ≡ a ∷ b ∷ [] → length ys ≡ k → 2 + k ≤ length xs → ys ≡ zs
    → put_mid 2 k (two ++ drop 2 xs) ys ≡ over (a ∷ b ∷ zs) xs
written_behind a b k two ys zs xs front long room is =
    rw front
    (ap (λ z. a ∷ b ∷ (ys ++ z)) (drop-drop k 2 xs)
    ∙ written (2 + k) (a ∷ b ∷ ys) (a ∷ b ∷ zs) xs (omega arith) (omega arith) (ap (λ z. a ∷ b ∷ z) is))

length_encoded : (n : ℕ) → length (encoded_length n) ≤ 10
unfolding encoded_length
length_encoded n =
    cond_both (eqb n 0) _ _ (λ (xs : List ℕ). length xs ≤ 10) (λ h. omega arith)
    (λ h. cond_both (ltb n 0xff00) _ _ (λ (xs : List ℕ). length xs ≤ 10) (λ h. omega arith)
    (λ h. cond_both (ltb n (2 ^ 32)) _ _ (λ (xs : List ℕ). length xs ≤ 10) (λ h. omega arith) (λ h. omega arith)))

-- the first block of what is associated: the length, and n bytes behind it
pub associated-block : (k n e : ℕ) (aad made front copied : List ℕ) → k ≡ length (encoded_length (length aad)) → n ≡ min (16 - k) (length aad)
    → front ≡ take n aad → e ≡ k + length front → made ≡ over (encoded_length (length aad)) (zeros 16) → copied ≡ front
    → put_mid k (e - k) made copied ≡ over (take 16 (associated aad)) (zeros 16)
associated-block k n e aad made front copied kl nk is end made-is copied-is =
    let enc = encoded_length (length aad) in
    let small = length_encoded (length aad) in
    let long : length front ≡ n = ap length is ∙ (length-take n aad ∙ omega arith) in
    let room : k + length (take n aad) ≤ length (over enc (zeros 16)) = omega (arith, length_over enc (zeros 16), ap length is) in
    rw made-is
    (placed_part k (e - k) copied (take n aad) (over enc (zeros 16)) room (omega (arith, ap length is)) (copied-is ∙ is)
    ∙ (placed_behind k enc (take n aad) (zeros 16) (sym kl) (omega (arith, ap length is))
    ∙ ap (λ z. over z (zeros 16)) (ap (λ z. enc ++ z) (take_min (16 - k) n aad nk ∙ ap (λ m. take (16 - m) aad) kl) ∙ sym (take_behind 16 enc aad (omega arith)))))

pub associated-rest : (n k : ℕ) (aad : List ℕ) → k ≡ length (encoded_length (length aad)) → n ≡ min (16 - k) (length aad)
    → drop 16 (associated aad) ≡ drop n aad
associated-rest n k aad kl nk =
    let enc = encoded_length (length aad) in
    let small = length_encoded (length aad) in
    drop_behind 16 enc aad (omega arith) ∙ (ap (λ m. drop (16 - m) aad) (sym kl) ∙ sym (drop_min (16 - k) n aad nk))

pub nothing-associated : (aad : List ℕ) → length aad ≡ 0 → associated aad ≡ []
unfolding encoded_length
nothing-associated aad h = ap associated (nil_from_length aad h)

pub something_associated : (aad : List ℕ) → 0 < length aad → 0 < length (associated aad)
something_associated aad h = simp length-append (omega arith)
