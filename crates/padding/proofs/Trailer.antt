-- The trailer: its length, its bytes, and the writes that make it.
use Rattle.std.proofs.Common.{◌≡◌, ℕ, ◌+◌, ◌-◌, ◌<◌, ◌≤◌, ◌&&◌, eqb, List, [], ◌∷◌, ◌++◌, length, get_or, take, set, sym, ap, ◌∙◌, arith}
use lib.Bits.{bit_or, bit_xor, xor_zero_r}
use Rattle.std.proofs.lemmas.List.FromFn.{length-range_with_len, map-range_with_len_more}
use Rattle.std.proofs.lemmas.List.{append_assoc, length-append, length-set, length-take-le, map-id, take_all, take_more, take_more_set}
use Rattle.std.proofs.lemmas.Bool.{le-leb}
use Rattle.octets.specs.Octets.{same}
use Rattle.octets.proofs.Octets.{no_difference, same_push}
use Rattle.padding.specs.Padding.{ramp, trailed, trailer}

pub length-trailer : (p : ℕ) → length (trailer p) ≡ p + 2
length-trailer p = simp (length-append, length-range_with_len)

pub ramp_more : (i : ℕ) → ramp (i + 1) ≡ ramp i ++ ((i + 1) ∷ [])
ramp_more i =
    sym (map-id (ramp (i + 1))) ∙ map-range_with_len_more (λ x. x) 1 i (i + 1) (omega arith) ∙ ap (λ l. l ++ ((i + 1) ∷ [])) (map-id (ramp i))

-- one padding byte more
pub ramp_step : (rest : List ℕ) (i : ℕ) → i < length rest → take i rest ≡ ramp i → take (i + 1) (set rest i (i + 1)) ≡ ramp (i + 1)
ramp_step rest i h e = take_more_set rest i (i + 1) h ∙ ap (λ l. l ++ ((i + 1) ∷ [])) e ∙ sym (ramp_more i)

-- the last two bytes, after the padding bytes
pub trailer_made : (rest : List ℕ) (i p : ℕ) → i ≡ p → length rest ≡ p + 2 → take i rest ≡ ramp i → set (set rest p p) (p + 1) 0 ≡ trailer p
trailer_made rest i p same h e =
    sym (take_all (p + 1 + 1) (set (set rest p p) (p + 1) 0) (simp length-set (omega arith)))
    ∙ take_more_set (set rest p p) (p + 1) 0 (simp length-set (omega arith))
    ∙ ap (λ l. l ++ (0 ∷ [])) (take_more_set rest p p (omega arith) ∙ ap (λ l. l ++ (p ∷ [])) (rw same at e))
    ∙ append_assoc (ramp p) (p ∷ []) (0 ∷ [])

-- a trailer over all of text but its first n bytes
pub trailed-fits : (n p : ℕ) (text : List ℕ) → length text ≡ n + p + 2 → p ≤ 255 → trailed n text ≡ take n text ++ trailer p
trailed-fits n p text h allowed =
    let same : length text - (n + 2) ≡ p = omega arith in
    rw (le-leb (n + 2) (length text) (omega arith), le-leb (length text) (n + 2 + 255) (omega arith), same)

-- one byte more of a comparison: d gathers the differences, and is 0 while there is none
pub same_step : (xs zs : List ℕ) (i d y : ℕ) → i < length xs → length zs ≡ i → same (take i xs) zs ≡ eqb d 0 → same (take (i + 1) xs) (zs ++ (y ∷ [])) ≡ eqb (bit_or d (bit_xor (get_or xs i 0) y)) 0
same_step xs zs i d y h k so =
    rw (take_more xs i 0 h)
    (same_push (take i xs) zs (get_or xs i 0) y (length-take-le i xs (omega arith) ∙ sym k)
    ∙ ap (λ t. t && eqb (get_or xs i 0) y) so ∙ sym (no_difference d (get_or xs i 0) y))

pub ramp-compared : (xs : List ℕ) (i d : ℕ) → i < length xs → same (take i xs) (ramp i) ≡ eqb d 0 → same (take (i + 1) xs) (ramp (i + 1)) ≡ eqb (bit_or d (bit_xor (get_or xs i 0) (i + 1))) 0
ramp-compared xs i d h so = rw ramp_more (same_step xs (ramp i) i d (i + 1) h (length-range_with_len 1 i) so)

pub trailer-compared : (xs : List ℕ) (i p d : ℕ) → i ≡ p → length xs ≡ p + 2 → same (take i xs) (ramp i) ≡ eqb d 0 → eqb (bit_or (bit_or d (bit_xor (get_or xs p 0) p)) (get_or xs (p + 1) 0)) 0 ≡ same xs (trailer p)
trailer-compared xs i p d e h so =
    let d' : ℕ = bit_or d (bit_xor (get_or xs p 0) p) in
    let one = same_step xs (ramp p) p d p (omega arith) (length-range_with_len 1 p) (rw e at so) in
    let two = same_step xs (ramp p ++ (p ∷ [])) (p + 1) d' 0 (omega arith) (simp (length-append, length-range_with_len)) one in
    sym (rw (xor_zero_r, take_all (p + 1 + 1) xs (omega arith), append_assoc) at two)
