-- Lists of bytes, and what a write leaves of a buffer.
--   Octets xs        every value in xs is a byte
--   zeros n          n zero bytes
--   over xs ys       the buffer ys once xs is written over its start, as far as ys reaches
--   wiped n ys       the buffer ys once its first n bytes are zero
--   placed at xs ys  the buffer ys once xs is written at a place; unchanged where xs does not fit there
--   same xs ys       whether xs and ys are the same bytes
use Rattle.std.specs.Prelude.{ℕ, ◌+◌, ◌<◌, Bool, true, false, cond, ◌&&◌, List, [], ◌∷◌, ◌++◌, length, take, drop, replicate, ◌==◌, nat_le}
use Rattle.std.specs.List.{AllByRecursion}

abbrev pub Octets : List ℕ → Type 0
Octets xs = AllByRecursion (λ x. x < 256) xs

abbrev pub zeros : ℕ → List ℕ
zeros n = replicate n 0

abbrev pub over : List ℕ → List ℕ → List ℕ
over xs ys = take (length ys) xs ++ drop (length xs) ys

abbrev pub wiped : ℕ → List ℕ → List ℕ
wiped n ys = over (zeros n) ys

abbrev pub placed : ℕ → List ℕ → List ℕ → List ℕ
placed at xs ys = cond (nat_le (at + length xs) (length ys)) (take at ys ++ (xs ++ drop (at + length xs) ys)) ys

abbrev pub same : List ℕ → List ℕ → Bool
same [] [] = true
same [] (y ∷ ys) = false
same (x ∷ xs) [] = false
same (x ∷ xs) (y ∷ ys) = x == y && same xs ys
