-- The padding, taken in after the last bytes of a message, gives its hash value.
use Rattle.std.proofs.Common.{◌≡◌, ℕ, ◌+◌, ◌-◌, ◌*◌, ◌/◌, ◌%◌, ◌^◌, ◌<◌, ◌≤◌, cond, ltb, List, [], ◌∷◌, ◌++◌, length, take, sym, ap, ◌∙◌, ⊎_elim, append_assoc, mul_comm, arith}
use borrow.Rule.Slice.PartMut.{put_mid}
use Rattle.std.proofs.lemmas.List.{append-nil, length-append, length-replicate, replicate-append-replicate, length-take-le, take_at, take_all, drop_all, drop-drop}
use Rattle.std.proofs.lemmas.Bool.{cases_lt, lt-ltb, le-ltb, cond-true, cond-false}
use Rattle.octets.specs.Numbers.{big_endian}
use Rattle.octets.specs.Octets.{zeros}
use Rattle.octets.proofs.BigEndian.{length-big_endian, descending, big_endian-descending}
use Rattle.chaining.specs.Chaining.{zero_count, padding, padded, marked, chained, concluded, Compression}
use Rattle.chaining.specs.Words.{word_bytes}
use Rattle.chaining.specs.Chained.{chained-block}

-- the last block: what it held, and the count of bits
last_block : (q b : List ℕ) → length b ≡ 64 → put_mid 56 8 b q ≡ take 56 b ++ q
last_block q b whole =
    ap (λ ys. take 56 b ++ (q ++ ys)) (drop-drop 8 56 b ∙ drop_all 64 b (omega arith))
    ∙ ap (λ ys. take 56 b ++ ys) (append-nil q)

-- the end of a message, marked in its block
abbrev ended : List ℕ → List ℕ
ended xs = xs ++ (0x80 ∷ zeros (63 - length xs))

length-ended : (xs : List ℕ) → length xs < 64 → length (ended xs) ≡ 64
length-ended xs room = simp (length-append, length-replicate) (omega arith)

zeros_split : (m n k : ℕ) → k ≡ m + n → zeros k ≡ zeros m ++ zeros n
zeros_split m n k e = ap zeros e ∙ sym (replicate-append-replicate m n 0)

-- the padding goes into the block that the message ends in
one_block : (xs q : List ℕ) → length xs < 56 → take 56 (ended xs) ++ q ≡ xs ++ (0x80 ∷ (zeros (55 - length xs) ++ q))
one_block xs q room =
    let end = 0x80 ∷ zeros (55 - length xs) in
    let split : ended xs ≡ (xs ++ end) ++ zeros 8 =
    ap (λ zs. xs ++ (0x80 ∷ zs)) (zeros_split (55 - length xs) 8 (63 - length xs) (omega arith))
    ∙ sym (append_assoc xs end (zeros 8)) in
    let long : length (xs ++ end) ≡ 56 = simp (length-append, length-replicate) (omega arith) in
    ap (λ ys. ys ++ q) (ap (take 56) split ∙ take_at (xs ++ end) (zeros 8) 56 long) ∙ append_assoc xs end q

-- it goes into that block and another
two_blocks : (xs q : List ℕ) → length xs < 64 → ended xs ++ (zeros 56 ++ q) ≡ xs ++ (0x80 ∷ (zeros (119 - length xs) ++ q))
two_blocks xs q room =
    let split = zeros_split (63 - length xs) 56 (119 - length xs) (omega arith) in
    append_assoc xs (0x80 ∷ zeros (63 - length xs)) (zeros 56 ++ q)
    ∙ ap (λ ys. xs ++ (0x80 ∷ ys)) (sym (append_assoc (zeros (63 - length xs)) (zeros 56) q) ∙ ap (λ ys. ys ++ q) (sym split))

-- the last bytes of a message, with nothing after them
concluded_end : (f : Compression) (t : ℕ) (v xs : List ℕ) → length xs ≡ t % 64 → concluded f (t - t % 64) v (xs ++ []) ≡ chained f (length (xs ++ padding t) / 64) v (xs ++ padding t)
unfolding concluded
concluded_end f t v xs long =
    ap (λ ys. chained f (length (padded (t - t % 64) ys) / 64) v (padded (t - t % 64) ys)) (append-nil xs)
    ∙ ap (λ n. chained f (length (xs ++ padding n) / 64) v (xs ++ padding n)) (omega arith)

padding_is : (t c : ℕ) → zero_count t ≡ c → padding t ≡ 0x80 ∷ (zeros c ++ big_endian 8 (t * 8 % 2 ^ 64))
unfolding padding
padding_is t c e =
    ap (λ n. 0x80 ∷ (zeros n ++ big_endian 8 (8 * t % 2 ^ 64))) e
    ∙ ap (λ n. 0x80 ∷ (zeros c ++ big_endian 8 (n % 2 ^ 64))) (mul_comm 8 t)

-- a block, or two
whole-block : (f : Compression) (v ys : List ℕ) → length ys ≡ 64 → chained f (length ys / 64) v ys ≡ f v ys
unfolding chained
whole-block f v ys long = ap (λ n. chained f (n / 64) v ys) long ∙ ap (f v) (take_all 64 ys (omega arith))

both-blocks : (f : Compression) (v ys zs : List ℕ) → length ys ≡ 64 → length zs ≡ 64 → chained f (length (ys ++ zs) / 64) v (ys ++ zs) ≡ f (f v ys) zs
unfolding chained
both-blocks f v ys zs long also =
    let all : length (ys ++ zs) ≡ 128 = length-append ys zs ∙ omega arith in
    ap (λ n. chained f (n / 64) v (ys ++ zs)) all
    ∙ chained-block f 1 v ys zs long
    ∙ ap (f (f v ys)) (take_all 64 zs (omega arith))

end_one : (f : Compression) (v xs q : List ℕ) → length q ≡ 8 → length xs < 56 → let ys = xs ++ (0x80 ∷ (zeros (55 - length xs) ++ q)) in f v (take 56 (ended xs) ++ q) ≡ chained f (length ys / 64) v ys
end_one f v xs q eight room =
    let ys = xs ++ (0x80 ∷ (zeros (55 - length xs) ++ q)) in
    let long : length ys ≡ 64 = simp (length-append, length-replicate) (omega arith) in
    ap (f v) (one_block xs q room)
    ∙ sym (whole-block f v ys long)

end_two : (f : Compression) (v xs q : List ℕ) → length q ≡ 8 → length xs < 64 → let ys = xs ++ (0x80 ∷ (zeros (119 - length xs) ++ q)) in f (f v (ended xs)) (take 56 (zeros 64) ++ q) ≡ chained f (length ys / 64) v ys
end_two f v xs q eight room =
    let ys = xs ++ (0x80 ∷ (zeros (119 - length xs) ++ q)) in
    let long : length (zeros 56 ++ q) ≡ 64 = length-append (zeros 56) q ∙ omega arith in
    sym (both-blocks f v (ended xs) (zeros 56 ++ q) (length-ended xs room) long)
    ∙ ap (λ zs. chained f (length zs / 64) v zs) (two_blocks xs q room)

-- the hash value w and the block, once the end is marked, and then the count of bits
padded-whole : (f : Compression) (v w b block : List ℕ) (t : ℕ) → length b ≡ 64 → w ≡ cond (ltb (t % 64) 56) v (f v (marked (t % 64) b)) → block ≡ cond (ltb (t % 64) 56) (marked (t % 64) b) (zeros 64) → f w (take 56 block ++ big_endian 8 (t * 8 % 2 ^ 64)) ≡ concluded f (t - t % 64) v (take (t % 64) b ++ [])
padded-whole f v w b block t whole value is =
    let xs = take (t % 64) b in
    let q = big_endian 8 (t * 8 % 2 ^ 64) in
    let eight = length-big_endian 8 (t * 8 % 2 ^ 64) in
    let long : length xs ≡ t % 64 = length-take-le (t % 64) b (omega arith) in
    let mark : marked (t % 64) b ≡ ended xs = ap (λ k. xs ++ (0x80 ∷ zeros (63 - k))) (sym long) in
    let end : (c : ℕ) → zero_count t ≡ c → let ys = xs ++ (0x80 ∷ (zeros c ++ q)) in chained f (length ys / 64) v ys ≡ concluded f (t - t % 64) v (xs ++ []) =
    λ c e. ap (λ p. chained f (length (xs ++ p) / 64) v (xs ++ p)) (sym (padding_is t c e)) ∙ sym (concluded_end f t v xs long) in
    ⊎_elim
    (λ h. let yes = lt-ltb (t % 64) 56 h in
    ap (λ u. f u (take 56 block ++ q)) (value ∙ cond-true (ltb (t % 64) 56) _ _ yes)
    ∙ ap (λ c. f v (take 56 c ++ q)) (is ∙ cond-true (ltb (t % 64) 56) _ _ yes ∙ mark)
    ∙ end_one f v xs q eight (omega arith)
    ∙ end (55 - length xs) (omega arith))
    (λ h. let no' = le-ltb (t % 64) 56 h in
    ap (λ u. f u (take 56 block ++ q)) (value ∙ cond-false (ltb (t % 64) 56) _ _ no' ∙ ap (f v) mark)
    ∙ ap (λ c. f (f v (ended xs)) (take 56 c ++ q)) (is ∙ cond-false (ltb (t % 64) 56) _ _ no')
    ∙ end_two f v xs q eight (omega arith)
    ∙ end (119 - length xs) (omega arith))
    (cases_lt (t % 64) 56)

pub digest-padded : (f : Compression) (u v w b block bits : List ℕ) (t n : ℕ) → length b ≡ 64 → length block ≡ 64 → w ≡ cond (ltb (t % 64) 56) v (f v (marked (t % 64) b)) → block ≡ cond (ltb (t % 64) 56) (marked (t % 64) b) (zeros 64) → n ≡ t → bits ≡ descending 8 (n * 8 % 2 ^ 64) → u ≡ f w (put_mid 56 8 block bits) → word_bytes u ≡ word_bytes (concluded f (t - t % 64) v (take (t % 64) b ++ []))
digest-padded f u v w b block bits t n whole also value is same count turned =
    ap word_bytes
    (turned
    ∙ ap (f w) (last_block bits block also ∙ ap (λ q. take 56 block ++ q) (count ∙ sym (big_endian-descending 8 (n * 8 % 2 ^ 64)) ∙ ap (λ m. big_endian 8 (m * 8 % 2 ^ 64)) same))
    ∙ padded-whole f v w b block t whole value is)

-- the count of zeros ends a block, and no smaller one does
pub zeros_end : (n : ℕ) → (n + 1 + zero_count n + 8) % 64 ≡ 0
zeros_end n = omega arith

pub zeros-least : (n z : ℕ) → (n + 1 + z + 8) % 64 ≡ 0 → zero_count n ≤ z
zeros-least n z ends = omega arith
