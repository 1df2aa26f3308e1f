-- Big-endian numbers: the most significant byte comes first.
--   big_endian k n      the k bytes of the number n
--   number xs           the number that the bytes xs write
--   field_of k f xs at  what f makes of the k bytes at a place of xs; none where xs ends before they do
--   field k xs at       the number of k bytes there
--   array_of k xs at    the k bytes there
use Rattle.std.specs.Prelude.{ℕ, zero, suc, ◌+◌, ◌/◌, ◌%◌, cond, List, [], ◌∷◌, ◌++◌, length, take, drop, Some, None, Option, nat_le}
use Rattle.std.specs.Int.Digits as digits

abbrev pub big_endian : ℕ → ℕ → List ℕ
big_endian zero n = []
big_endian (suc k) n = big_endian k (n / 256) ++ (n % 256 ∷ [])

abbrev pub number : List ℕ → ℕ
number xs = digits.number_from_digits 256 xs

abbrev pub field_of : {A : Type 0} → ℕ → (List ℕ → A) → List ℕ → ℕ → Option A
field_of k f xs at = cond (nat_le (at + k) (length xs)) (Some (f (take k (drop at xs)))) None

abbrev pub field : ℕ → List ℕ → ℕ → Option ℕ
field k xs at = field_of k number xs at

abbrev pub array_of : ℕ → List ℕ → ℕ → Option (List ℕ)
array_of k xs at = field_of k (λ ys. ys) xs at
