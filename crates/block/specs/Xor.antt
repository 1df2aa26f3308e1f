-- The exclusive or of bytes.
--   xored xs ys  xs, to the start of which ys is added by exclusive or, as far as both reach
use Rattle.std.specs.Prelude.{ℕ, List, [], ◌∷◌, bit_xor}

abbrev pub xored : List ℕ → List ℕ → List ℕ
xored [] ys = []
xored (x ∷ xs) [] = x ∷ xs
xored (x ∷ xs) (y ∷ ys) = bit_xor x y ∷ xored xs ys
