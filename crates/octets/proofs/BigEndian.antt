-- Big-endian numbers and their bytes. That bytes xs write a number below 256 ^ length xs is std's `number_lt 256 xs`.
use Rattle.std.proofs.Common.{◌≡◌, ℕ, zero, suc, ◌+◌, ◌*◌, ◌/◌, ◌%◌, ◌^◌, ◌<◌, List, [], ◌∷◌, ◌++◌, length, get_or, take, sym, refl, ap, ◌∙◌, mod-eq_of_lt, mul_assoc, mul_comm, add-mul, pow-suc, zero-add, div-one, add-one, arith, take-suc}
use native.Mathlib.Nat.{div-div-eq-div-mul, pow-succ'}
use lib.Arith.{mod-mul}
use Rattle.std.specs.Int.Digits.{number_from_digits_after}
use Rattle.std.proofs.lemmas.Nat.{div-mul-add, mod-mul-add}
use Rattle.std.proofs.lemmas.Int.Digits.{number_push}
use Rattle.std.proofs.ByRecursion.{All-push, All-take, All-get_or}
use Rattle.std.proofs.lemmas.List.{length_push, length-take-le, take_all, nil_from_length}
use Rattle.octets.specs.Numbers.{big_endian, number}
use Rattle.octets.specs.Octets.{Octets}

pub length-big_endian : (k n : ℕ) → length (big_endian k n) ≡ k
length-big_endian zero n = refl
length-big_endian (suc k) n = length_push (big_endian k (n / 256)) (n % 256) ∙ rw (length-big_endian k (n / 256), add-one)

pub octets-big_endian : (k n : ℕ) → Octets (big_endian k n)
octets-big_endian zero n = tt
octets-big_endian (suc k) n = All-push (λ x. x < 256) (big_endian k (n / 256)) (n % 256) (octets-big_endian k (n / 256)) (omega arith)

pow_256 : (k : ℕ) → 0 < 256 ^ k
pow_256 zero = omega arith
pow_256 (suc k) = let h = pow_256 k in rw pow-suc (omega arith)

-- the number of the k bytes of n is n, as far as k bytes reach
pub number-big_endian_mod : (k n : ℕ) → number (big_endian k n) ≡ n % 256 ^ k
number-big_endian_mod zero n = omega arith
number-big_endian_mod (suc k) n =
    number_push 256 (big_endian k (n / 256)) (n % 256)
    ∙ rw (number-big_endian_mod k (n / 256), pow-suc) (sym (mod-mul n (pow_256 k) (omega arith)))

pub number-big_endian : (k n : ℕ) → n < 256 ^ k → number (big_endian k n) ≡ n
number-big_endian k n h = number-big_endian_mod k n ∙ mod-eq_of_lt h

pub big_endian_push : (k n d : ℕ) → d < 256 → big_endian (suc k) (n * 256 + d) ≡ big_endian k n ++ (d ∷ [])
big_endian_push k n d h = rw (div-mul-add n 256 d h, mod-mul-add n 256 d h)

bytes_of : (k : ℕ) (xs : List ℕ) → length xs ≡ k → Octets xs → big_endian k (number xs) ≡ xs
bytes_of zero xs e h = sym (nil_from_length xs e)
bytes_of (suc k) xs e h =
    let d = get_or xs k 0 in
    let split : xs ≡ take k xs ++ (d ∷ []) = sym (take_all (suc k) xs (omega arith)) ∙ take-suc xs k 0 (omega arith) in
    let front = bytes_of k (take k xs) (length-take-le k xs (omega arith)) (All-take (λ x. x < 256) k xs h) in
    let byte : d < 256 = All-get_or (λ x. x < 256) xs k 0 (omega arith) h in
    ap (λ zs. big_endian (suc k) (number zs)) split
    ∙ ap (big_endian (suc k)) (number_push 256 (take k xs) d)
    ∙ big_endian_push k (number (take k xs)) d byte
    ∙ ap (λ zs. zs ++ (d ∷ [])) front
    ∙ sym split

-- bytes are those of the number that they write
pub big_endian-number : (xs : List ℕ) → Octets xs → big_endian (length xs) (number xs) ≡ xs
big_endian-number xs h = bytes_of (length xs) xs refl h

number_after_is : (n : ℕ) (ys : List ℕ) → number_from_digits_after 256 n ys ≡ n * 256 ^ length ys + number ys
number_after_is n [] = omega arith
number_after_is n (y ∷ ys) =
    let p = 256 ^ length ys in
    let this = number_after_is (n * 256 + y) ys in
    let alone = number_after_is (0 + y) ys in
    rw (pow-suc 256 (length ys)) (omega (arith, add-mul (n * 256) y p, mul_assoc n 256 p, mul_comm 256 p, zero-add y))

-- the first byte
pub big_endian-cons : (k n : ℕ) → big_endian (suc k) n ≡ (n / 256 ^ k % 256) ∷ big_endian k n
big_endian-cons zero n = ap (λ m. (m % 256) ∷ []) (sym (div-one n))
big_endian-cons (suc k) n =
    ap (λ zs. zs ++ (n % 256 ∷ [])) (big_endian-cons k (n / 256))
    ∙ ap (λ m. (m % 256) ∷ big_endian (suc k) n) (rw (div-div-eq-div-mul, pow-succ'))

-- the k bytes of n as `to_be_bytes` gives them; where k is a numeral, this computes to the list in that contract
abbrev pub descending : ℕ → ℕ → List ℕ
descending zero n = []
descending (suc zero) n = n % 256 ∷ []
descending (suc (suc k)) n = (n / 256 ^ suc k % 256) ∷ descending (suc k) n

pub big_endian-descending : (k n : ℕ) → big_endian k n ≡ descending k n
big_endian-descending zero n = refl
big_endian-descending (suc zero) n = refl
big_endian-descending (suc (suc k)) n =
    big_endian-cons (suc k) n ∙ ap (λ zs. (n / 256 ^ suc k % 256) ∷ zs) (big_endian-descending (suc k) n)
