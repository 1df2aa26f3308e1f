-- A list in parts of n elements. Assumes nothing.
use Rattle.std.proofs.Common.{◌≡◌, ℕ, zero, suc, ◌*◌, ◌<◌, List, get_or, take, drop, ap, ◌∙◌, arith}
use Rattle.std.specs.Simd.{first_chunks}
use Rattle.std.proofs.lemmas.List.{drop-drop}

pub chunk_is : (n k i : ℕ) (xs d : List ℕ) → i < k → get_or (first_chunks n k xs) i d ≡ take n (drop (n * i) xs)
chunk_is n zero i xs d h = absurd (omega arith)
chunk_is n (suc k) zero xs d h = ap (λ m. take n (drop m xs)) {x = 0} {y = n * 0} (omega arith)
chunk_is n (suc k) (suc i) xs d h = chunk_is n k i (drop n xs) d (omega arith) ∙ ap (take n) (drop-drop (n * i) n xs ∙ ap (λ m. drop m xs) (omega arith))
