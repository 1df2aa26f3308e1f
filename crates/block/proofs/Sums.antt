-- The exclusive or of bytes, place by place. Assumes nothing.
use Rattle.std.proofs.Common.{◌≡◌, ℕ, zero, suc, ◌+◌, ◌<◌, min, List, [], ◌∷◌, length, get_or, take, set, sym, refl, ap, ◌∙◌, add-one, arith}
use lib.Bits.{bit_xor, xor_assoc, xor_self, xor_zero_r, xor_comm}
use Rattle.std.proofs.lemmas.Nat.{xor_lt}
use Rattle.octets.specs.Octets.{Octets}
use Rattle.block.specs.Xor.{xored}

pub length-xored : (xs ys : List ℕ) → length (xored xs ys) ≡ length xs
length-xored [] ys = refl
length-xored (x ∷ xs) [] = refl
length-xored (x ∷ xs) (y ∷ ys) = ap suc (length-xored xs ys)

pub octets-xored : (xs ys : List ℕ) → Octets xs → Octets ys → Octets (xored xs ys)
octets-xored [] ys a b = tt
octets-xored (x ∷ xs) [] a b = a
octets-xored (x ∷ xs) (y ∷ ys) a b = (xor_lt 8 x y a.0 b.0, octets-xored xs ys a.1 b.1)

xor_twice : (x y : ℕ) → bit_xor (bit_xor x y) y ≡ x
xor_twice x y = xor_assoc x y y ∙ (ap (bit_xor x) (xor_self y) ∙ xor_zero_r x)

-- what is added twice is taken away
pub xored_twice : (xs ys : List ℕ) → xored (xored xs ys) ys ≡ xs
xored_twice [] ys = refl
xored_twice (x ∷ xs) [] = refl
xored_twice (x ∷ xs) (y ∷ ys) = ap (λ z. z ∷ xored (xored xs ys) ys) (xor_twice x y) ∙ ap (λ zs. x ∷ zs) (xored_twice xs ys)

pub xored_comm : (xs ys : List ℕ) → length xs ≡ length ys → xored xs ys ≡ xored ys xs
xored_comm [] [] e = refl
xored_comm [] (y ∷ ys) e = absurd (omega arith)
xored_comm (x ∷ xs) [] e = absurd (omega arith)
xored_comm (x ∷ xs) (y ∷ ys) e = ap (λ z. z ∷ xored xs ys) (xor_comm x y) ∙ ap (λ zs. bit_xor y x ∷ zs) (xored_comm xs ys (omega arith))

pub xored-nil : (xs : List ℕ) → xored xs [] ≡ xs
xored-nil [] = refl
xored-nil (x ∷ xs) = refl

xored_next : (xs ys : List ℕ) (i : ℕ) → i < length xs → i < length ys
    → set (xored xs (take i ys)) i (bit_xor (get_or (xored xs (take i ys)) i 0) (get_or ys i 0)) ≡ xored xs (take (suc i) ys)
xored_next [] ys i a b = absurd (omega arith)
xored_next (x ∷ xs) [] i a b = absurd (omega arith)
xored_next (x ∷ xs) (y ∷ ys) zero a b = ap (λ zs. bit_xor x y ∷ zs) (sym (xored-nil xs))
xored_next (x ∷ xs) (y ∷ ys) (suc i) a b = ap (λ zs. bit_xor x y ∷ zs) (xored_next xs ys i (omega arith) (omega arith))

-- one place more
pub xored_more : (xs ys zs : List ℕ) (i : ℕ) → i < length xs → i < length ys → zs ≡ xored xs (take i ys)
    → set zs i (bit_xor (get_or zs i 0) (get_or ys i 0)) ≡ xored xs (take (i + 1) ys)
xored_more xs ys zs i a b e = ap (λ us. set us i (bit_xor (get_or us i 0) (get_or ys i 0))) e ∙ (xored_next xs ys i a b ∙ rw add-one refl)

-- no more than both reach counts
pub xored_all : (xs ys : List ℕ) (n : ℕ) → n ≡ min (length ys) (length xs) → xored xs (take n ys) ≡ xored xs ys
xored_all [] ys n e = refl
xored_all (x ∷ xs) [] n e = ap (xored (x ∷ xs)) (take_none n) where
  take_none : (n : ℕ) → take {A = ℕ} n [] ≡ []
  take_none zero = refl
  take_none (suc n) = refl
xored_all (x ∷ xs) (y ∷ ys) zero e = absurd (omega arith)
xored_all (x ∷ xs) (y ∷ ys) (suc n) e = ap (λ zs. bit_xor x y ∷ zs) (xored_all xs ys n (omega arith))
