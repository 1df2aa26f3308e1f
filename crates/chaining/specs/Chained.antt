-- Blocks taken in one by one give the hash value of the whole message.
use Rattle.std.specs.Prelude.{◌≡◌, ℕ, zero, suc, ◌+◌, ◌-◌, ◌*◌, ◌/◌, ◌%◌, ◌^◌, ◌<◌, ◌≤◌, List, ◌++◌, length, take, drop}
use Rattle.std.proofs.Common.{append_assoc, sym, ap, ◌∙◌, arith}
use borrow.Rule.Slice.PartMut.{put_mid}
use Rattle.std.proofs.lemmas.List.{append-nil, length-append, length-take, length-take-le, take_at, drop_at, take_rest, take-append-drop, drop_all, drop-drop}
use Rattle.std.proofs.lemmas.Slice.{take-put_mid}
use Rattle.chaining.specs.Chaining.{padding, padded, chained, concluded, Compression}
use Rattle.chaining.specs.Words.{word_bytes}

-- the first block
pub chained-block : (f : Compression) (n : ℕ) (v ys xs : List ℕ) → length ys ≡ 64 → chained f (suc n) v (ys ++ xs) ≡ chained f n (f v ys) xs
unfolding chained
chained-block f n v ys xs e = rw (take_at ys xs 64 e, drop_at ys xs 64 e)

-- only the count of bytes modulo 2 ^ 64 matters to the padding
padding-count : (m n : ℕ) → m % 2 ^ 64 ≡ n % 2 ^ 64 → padding m ≡ padding n
unfolding padding
padding-count m n e =
    let low : m % 64 ≡ n % 64 = omega arith in
    let bits : 8 * m % 2 ^ 64 ≡ 8 * n % 2 ^ 64 = omega arith in
    rw (low, bits)

concluded-count : (f : Compression) (m n : ℕ) (v xs : List ℕ) → m % 2 ^ 64 ≡ n % 2 ^ 64 → concluded f m v xs ≡ concluded f n v xs
unfolding concluded
concluded-count f m n v xs e = ap (λ p. chained f (length (xs ++ p) / 64) v (xs ++ p)) (padding-count (m + length xs) (n + length xs) (omega arith))

concluded-block : (f : Compression) (n : ℕ) (v ys xs : List ℕ) → length ys ≡ 64 → concluded f n v (ys ++ xs) ≡ concluded f (n + 64) (f v ys) xs
unfolding concluded
concluded-block f n v ys xs e =
    let p = padding (n + 64 + length xs) in
    let same : padding (n + length (ys ++ xs)) ≡ p = ap padding (simp length-append (omega arith)) in
    let split : (ys ++ xs) ++ padding (n + length (ys ++ xs)) ≡ ys ++ (xs ++ p) =
    ap (λ q. (ys ++ xs) ++ q) same ∙ append_assoc ys xs p in
    let count : length (ys ++ (xs ++ p)) / 64 ≡ suc (length (xs ++ p) / 64) =
    rw (length-append ys (xs ++ p), e) (omega arith) in
    ap (λ zs. chained f (length zs / 64) v zs) split
    ∙ ap (λ k. chained f k v (ys ++ (xs ++ p))) count
    ∙ chained-block f (length (xs ++ p) / 64) v ys (xs ++ p) e

-- the digest of a chain, from its parts
abbrev pub digest_of : Compression → List ℕ → List ℕ → ℕ → List ℕ → List ℕ
digest_of f v block total x = word_bytes (concluded f (total - total % 64) v (take (total % 64) block ++ x))

-- bytes that leave room in the block
pub part_filled : (f : Compression) (v b part zs : List ℕ) (t n k : ℕ) → length b ≡ 64 → t % 64 + n < 64 → n ≤ length part → k ≡ n → zs ≡ take n part → (x : List ℕ) → digest_of f v (put_mid (t % 64) k b zs) ((t + n) % 2 ^ 64) x ≡ digest_of f v b t (take n part ++ x)
part_filled f v b part zs t n k whole room some e is x =
    let at = t % 64 in
    let long : length zs ≡ n = ap length is ∙ length-take-le n part some in
    let total = (t + n) % 2 ^ 64 in
    let now-at : total % 64 ≡ at + n = omega arith in
    let front : take (total % 64) (put_mid at k b zs) ≡ take at b ++ zs =
    take-put_mid at k b zs (total % 64) (omega arith) (omega arith) in
    let list : take (total % 64) (put_mid at k b zs) ++ x ≡ take at b ++ (take n part ++ x) =
    ap (λ ys. ys ++ x) front ∙ append_assoc (take at b) zs x ∙ ap (λ ys. take at b ++ (ys ++ x)) is in
    ap word_bytes
    (ap (concluded f (total - total % 64) v) list
    ∙ concluded-count f (total - total % 64) (t - at) v (take at b ++ (take n part ++ x)) (omega arith))

-- bytes that end the block
pub part_ends : (f : Compression) (v w b part zs : List ℕ) (t n k : ℕ) → length b ≡ 64 → t % 64 + n ≡ 64 → n ≤ length part → k ≡ n → zs ≡ take n part → w ≡ f v (put_mid (t % 64) k b zs) → (x : List ℕ) → digest_of f w (put_mid (t % 64) k b zs) ((t + n) % 2 ^ 64) x ≡ digest_of f v b t (take n part ++ x)
part_ends f v w b part zs t n k whole all some e is turned x =
    let at = t % 64 in
    let long : length zs ≡ n = ap length is ∙ length-take-le n part some in
    let total = (t + n) % 2 ^ 64 in
    let now-at : total % 64 ≡ 0 = omega arith in
    let block = take at b ++ zs in
    let is_block : put_mid at k b zs ≡ block =
    ap (λ ys. take at b ++ (zs ++ ys)) (drop-drop k at b ∙ drop_all (at + k) b (omega arith))
    ∙ ap (λ ys. take at b ++ ys) (append-nil zs) in
    let is-long : length block ≡ 64 = simp (length-append, length-take) (omega arith) in
    let list : take at b ++ (take n part ++ x) ≡ block ++ x =
    ap (λ ys. take at b ++ (ys ++ x)) (sym is) ∙ sym (append_assoc (take at b) zs x) in
    ap word_bytes
    (ap (λ m. concluded f (total - m) w (take m (put_mid at k b zs) ++ x)) now-at
    ∙ ap (λ u. concluded f (total - 0) u x) (turned ∙ ap (f v) is_block)
    ∙ concluded-count f (total - 0) (t - at + 64) (f v block) x (omega arith)
    ∙ sym (concluded-block f (t - at) v block x is-long)
    ∙ ap (concluded f (t - at) v) (sym list))

-- one more part of what is to be absorbed: F and G are the digests that the chain comes to before and after it
pub more_absorbed : (F G All : List ℕ → List ℕ) (part : List ℕ) (done n : ℕ) → ((x : List ℕ) → G x ≡ F (take n (take (length part - done) (drop done part)) ++ x)) → ((x : List ℕ) → F (drop done part ++ x) ≡ All x) → (x : List ℕ) → G (drop (done + n) part ++ x) ≡ All x
more_absorbed F G All part done n this before x =
    let rest = drop done part in
    let split : take n (take (length part - done) rest) ++ (drop (done + n) part ++ x) ≡ rest ++ x =
    ap (λ ys. take n ys ++ (drop (done + n) part ++ x)) (take_rest part done)
    ∙ ap (λ ys. take n rest ++ (ys ++ x)) (sym (drop-drop n done part))
    ∙ sym (append_assoc (take n rest) (drop n rest) x)
    ∙ ap (λ ys. ys ++ x) (take-append-drop n rest) in
    this (drop (done + n) part ++ x) ∙ ap F split ∙ before x

pub all_absorbed : (F All : List ℕ → List ℕ) (part : List ℕ) (done : ℕ) → length part ≤ done → ((x : List ℕ) → F (drop done part ++ x) ≡ All x) → (x : List ℕ) → F x ≡ All x
all_absorbed F All part done end before x = ap (λ ys. F (ys ++ x)) (sym (drop_all done part end)) ∙ before x

-- the count of words in a hash value
length-chained : (f : Compression) (count n : ℕ) (v xs : List ℕ) → ((u b : List ℕ) → length (f u b) ≡ count) → length v ≡ count → length (chained f n v xs) ≡ count
unfolding chained
length-chained f count zero v xs turned start = start
length-chained f count (suc n) v xs turned start =
    length-chained f count n (f v (take 64 xs)) (drop 64 xs) turned (turned v (take 64 xs))

pub length-concluded : (f : Compression) (count n : ℕ) (v xs : List ℕ) → ((u b : List ℕ) → length (f u b) ≡ count) → length v ≡ count → length (concluded f n v xs) ≡ count
unfolding concluded
length-concluded f count n v xs turned start = length-chained f count (length (padded n xs) / 64) v (padded n xs) turned start
