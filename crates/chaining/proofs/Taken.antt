-- The front of what is to be absorbed, once taken into the block, leaves the rest of it to absorb.
use Rattle.std.proofs.Common.{◌≡◌, ℕ, ◌+◌, ◌%◌, ◌^◌, ◌<◌, ◌≤◌, List, ◌++◌, length, take, drop, sym, refl, ap, ◌∙◌, zero-add, arith}
use borrow.Rule.Slice.PartMut.{put_mid}
use Rattle.std.proofs.lemmas.List.{take_rest}
use Rattle.chaining.specs.Chaining.{Compression}
use Rattle.chaining.specs.Chained.{digest_of, part_filled, part_ends, more_absorbed}

-- F and G are the digests that the chain comes to before and after its first n bytes are taken in
rest_left : (F G : List ℕ → List ℕ) (part rest : List ℕ) (n : ℕ) → rest ≡ drop n part → ((x : List ℕ) → G x ≡ F (take n part ++ x)) → (x : List ℕ) → G (rest ++ x) ≡ F (part ++ x)
rest_left F G part rest n is this x =
    ap (λ ys. G (ys ++ x)) (is ∙ ap (λ k. drop k part) (sym (zero-add n)))
    ∙ more_absorbed F G (λ y. F (part ++ y)) part 0 n (λ y. this y ∙ ap (λ ys. F (take n ys ++ y)) (sym (take_rest part 0))) (λ y. refl) x

pub filled_and_rest : (f : Compression) (v b part front rest zs : List ℕ) (t n k : ℕ) → length b ≡ 64 → t % 64 + length front < 64 → n ≤ length part → k ≡ length front → zs ≡ front → front ≡ take n part → rest ≡ drop n part → length front ≡ n → (x : List ℕ) → digest_of f v (put_mid (t % 64) k b zs) ((t + length front) % 2 ^ 64) (rest ++ x) ≡ digest_of f v b t (part ++ x)
filled_and_rest f v b part front rest zs t n k whole room some e is cut left long =
    rw long (rest_left (digest_of f v b t) (digest_of f v (put_mid (t % 64) k b zs) ((t + n) % 2 ^ 64)) part rest n left
    (part_filled f v b part zs t n k whole (omega arith) some (omega arith) (is ∙ cut)))

pub ended_and_rest : (f : Compression) (v w b part front rest zs : List ℕ) (t n k : ℕ) → length b ≡ 64 → t % 64 + length front ≡ 64 → n ≤ length part → k ≡ length front → zs ≡ front → front ≡ take n part → rest ≡ drop n part → length front ≡ n → w ≡ f v (put_mid (t % 64) k b zs) → (x : List ℕ) → digest_of f w (put_mid (t % 64) k b zs) ((t + length front) % 2 ^ 64) (rest ++ x) ≡ digest_of f v b t (part ++ x)
ended_and_rest f v w b part front rest zs t n k whole all some e is cut left long turned =
    rw long (rest_left (digest_of f v b t) (digest_of f w (put_mid (t % 64) k b zs) ((t + n) % 2 ^ 64)) part rest n left
    (part_ends f v w b part zs t n k whole (omega arith) some (omega arith) (is ∙ cut) turned))
