-- The chunks of a list, and the words of a block: its chunks of four bytes.
use Rattle.std.proofs.Common.{◌≡◌, ℕ, suc, zero, ◌+◌, ◌*◌, ◌/◌, ◌<◌, ◌≤◌, List, length, take, drop, get_or, ap, sym, ◌∙◌, arith}
use Rattle.std.specs.Simd.{first_chunks}
use Rattle.std.proofs.lemmas.List.{drop-drop, drop_all, take_all, length-take-le, length-drop}
use Rattle.octets.specs.Numbers.{number}
use Rattle.chaining.specs.Words.{block_word}
use Rattle.chaining.specs.WordBytes.{four_at}

pub chunk_at : (n : ℕ) (xs : List ℕ) (k t : ℕ) (d : List ℕ) → t < k → get_or (first_chunks n k xs) t d ≡ take n (drop (n * t) xs)
chunk_at n xs zero t d inside = absurd (omega arith)
chunk_at n xs (suc k) zero d inside = ap (λ m. take n (drop m xs)) {x = 0} (omega arith)
chunk_at n xs (suc k) (suc t) d inside =
    chunk_at n (drop n xs) k t d (omega arith) ∙ ap (take n) (drop-drop (n * t) n xs ∙ ap (λ m. drop m xs) (omega arith))

-- the number that the bytes of a chunk write
pub chunk_word : (block bytes : List ℕ) (words : List (List ℕ)) (t : ℕ) {n : ℕ} → length block ≡ 64 → words ≡ first_chunks 4 (length block / 4) block → t < 16 → bytes ≡ get_or words t bytes → n ≡ get_or bytes 0 0 * 16777216 + get_or bytes 1 0 * 65536 + get_or bytes 2 0 * 256 + get_or bytes 3 0 → n ≡ block_word block t
unfolding block_word
chunk_word block bytes words t whole cut inside is read =
    let chunk : bytes ≡ take 4 (drop (4 * t) block) =
    is ∙ ap (λ ws. get_or ws t bytes) cut ∙ chunk_at 4 block (length block / 4) t bytes (omega arith) in
    let long : length bytes ≡ 4 = ap length chunk ∙ length-take-le 4 (drop (4 * t) block) (omega (arith, length-drop {A = ℕ})) in
    let four = four_at bytes 0 (omega arith) in
    read ∙ sym four ∙ ap number (take_all 4 bytes (omega arith) ∙ chunk)

pub no_word : (block : List ℕ) (t : ℕ) → length block ≡ 64 → 16 ≤ t → 0 ≡ block_word block t
unfolding block_word
no_word block t whole past = ap (λ xs. number (take 4 xs)) (sym (drop_all (4 * t) block (omega arith)))
