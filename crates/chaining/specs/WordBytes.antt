-- Words of 32 bits and their bytes: the word that four bytes write, and words written one after another.
use Rattle.std.specs.Prelude.{◌≡◌, ℕ, ◌+◌, ◌-◌, ◌*◌, ◌<◌, ◌≤◌, min, List, [], ◌∷◌, ◌++◌, length, take, drop, slice_index, slice_index_or, refl}
use Rattle.std.proofs.Common.{append_assoc, sym, ap, ◌∙◌, ⊎_elim, add-zero, arith}
use borrow.Rule.Slice.PartMut.{put_mid}
use Rattle.std.proofs.lemmas.Int.Digits.{number_more}
use Rattle.std.proofs.ByRecursion.{All-append}
use Rattle.std.proofs.lemmas.List.{append-nil, get_or-drop, length-append, length-drop, length-take-le, take_more, take_all, drop_all, drop-drop, take_rest}
use Rattle.std.proofs.lemmas.Bool.{cases_lt}
use Rattle.octets.specs.Numbers.{big_endian, number}
use Rattle.octets.specs.Octets.{Octets, over}
use Rattle.octets.proofs.BigEndian.{length-big_endian, octets-big_endian, descending, big_endian-descending}
use Rattle.octets.proofs.Octets.{over-nil, over-append, take-over, drop-over-rest}
use Rattle.chaining.specs.Words.{word_bytes}

pub length-word_bytes : (ws : List ℕ) → length (word_bytes ws) ≡ 4 * length ws
unfolding word_bytes
length-word_bytes [] = refl
length-word_bytes (w ∷ ws) =
    let this = length-big_endian 4 w in
    let rest = length-word_bytes ws in
    length-append (big_endian 4 w) (word_bytes ws) ∙ omega arith

pub octets-word_bytes : (ws : List ℕ) → Octets (word_bytes ws)
unfolding word_bytes
octets-word_bytes [] = tt
octets-word_bytes (w ∷ ws) =
    All-append (λ x. x < 256) (big_endian 4 w) (word_bytes ws) (octets-big_endian 4 w) (octets-word_bytes ws)

word_bytes_push : (ws : List ℕ) (w : ℕ) → word_bytes (ws ++ (w ∷ [])) ≡ word_bytes ws ++ big_endian 4 w
unfolding word_bytes
word_bytes_push [] w = append-nil (big_endian 4 w)
word_bytes_push (u ∷ ws) w =
    ap (λ ys. big_endian 4 u ++ ys) (word_bytes_push ws w) ∙ sym (append_assoc (big_endian 4 u) (word_bytes ws) (big_endian 4 w))

-- a write after another goes on where that one ends
over_more : (p q ys : List ℕ) → take (length p) (over p ys) ++ over q (drop (length p) (over p ys)) ≡ over (p ++ q) ys
over_more p q ys =
    ap (λ zs. zs ++ over q (drop (length p) (over p ys))) (take-over (length p) p ys ∙ ap (λ zs. over zs (take (length p) ys)) (take_all (length p) p (omega arith)))
    ∙ ap (λ zs. over p (take (length p) ys) ++ over q zs) (drop-over-rest p ys)
    ∙ sym (over-append p q ys)

pub word_none : (ys : List ℕ) → ys ≡ over (word_bytes []) ys
unfolding word_bytes
word_none ys = sym (over-nil ys)

-- as far as the list reaches
take-reach : (n : ℕ) (xs : List ℕ) → take (min (length xs) n) xs ≡ take n xs
take-reach n xs =
    ⊎_elim
    (λ h. ap (λ k. take k xs) (omega arith))
    (λ h. ap (λ k. take k xs) (omega arith) ∙ take_all (length xs) xs (omega arith) ∙ sym (take_all n xs h))
    (cases_lt n (length xs))

drop-reach : (n : ℕ) (xs : List ℕ) → drop (min (length xs) n) xs ≡ drop n xs
drop-reach n xs =
    ⊎_elim
    (λ h. ap (λ k. drop k xs) (omega arith))
    (λ h. drop_all (min (length xs) n) xs (omega arith) ∙ sym (drop_all n xs h))
    (cases_lt n (length xs))

-- one more word
pub word_more : (ws out old bytes part : List ℕ) (i at : ℕ) → i < length ws → at ≡ min (length out) (4 * i) → bytes ≡ descending 4 (slice_index ws i) → part ≡ over bytes (take (length out - at) (drop at out)) → out ≡ over (word_bytes (take i ws)) old → put_mid at (length out - at) out part ≡ over (word_bytes (take (i + 1) ws)) old
word_more ws out old bytes part i at more e bytes-are part_is before =
    let p = word_bytes (take i ws) in
    let w = slice_index_or ws i 0 in
    let long : length p ≡ 4 * i = length-word_bytes (take i ws) ∙ ap (λ k. 4 * k) (length-take-le i ws (omega arith)) in
    let here : at ≡ min (length out) (length p) = omega arith in
    let front : take at out ≡ take (length p) out = ap (λ k. take k out) here ∙ take-reach (length p) out in
    let rest : drop at out ≡ drop (length p) out = ap (λ k. drop k out) here ∙ drop-reach (length p) out in
    let written : part ≡ over (big_endian 4 w) (drop (length p) out) =
    part_is ∙ ap (over bytes) (take_rest out at ∙ rest) ∙ ap (λ q. over q (drop (length p) out)) (bytes-are ∙ sym (big_endian-descending 4 w)) in
    let past : drop (length out - at) (drop at out) ≡ [] = drop-drop (length out - at) at out ∙ drop_all (at + (length out - at)) out (omega arith) in
    ap (λ ys. take at out ++ (part ++ ys)) past
    ∙ ap (λ ys. take at out ++ ys) (append-nil part)
    ∙ ap (λ ys. ys ++ part) front
    ∙ ap (λ ys. take (length p) out ++ ys) written
    ∙ ap (λ ys. take (length p) ys ++ over (big_endian 4 w) (drop (length p) ys)) before
    ∙ over_more p (big_endian 4 w) old
    ∙ ap (λ ys. over ys old) (sym (word_bytes_push (take i ws) w) ∙ ap word_bytes (sym (take_more ws i 0 more)))

-- the word of four bytes, byte by byte
four : (ds : List ℕ) → 4 ≤ length ds → number (take 4 ds) ≡ slice_index ds 0 * 16777216 + slice_index ds 1 * 65536 + slice_index ds 2 * 256 + slice_index ds 3
four ds long =
    let one = number_more 256 ds 0 (omega arith) in
    let two = number_more 256 ds 1 (omega arith) in
    let three = number_more 256 ds 2 (omega arith) in
    let all = number_more 256 ds 3 (omega arith) in
    omega arith

pub four_at : (xs : List ℕ) (k : ℕ) → k + 4 ≤ length xs → number (take 4 (drop k xs)) ≡ slice_index xs k * 16777216 + slice_index xs (k + 1) * 65536 + slice_index xs (k + 2) * 256 + slice_index xs (k + 3)
four_at xs k long =
    let h : 4 ≤ length (drop k xs) = simp length-drop (omega arith) in
    simp (get_or-drop, add-zero) at (four (drop k xs) h)
