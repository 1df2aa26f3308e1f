-- What a write leaves of a buffer, and when two lists are the same bytes.
use Rattle.std.proofs.Common.{◌≡◌, ℕ, zero, suc, ◌+◌, ◌<◌, ◌≤◌, Bool, true, false, ◌&&◌, eqb, leb, List, [], ◌∷◌, ◌++◌, length, get_or, take, drop, replicate, sym, refl, ap, ◌∙◌, ⊎_elim, append_assoc, arith}
use borrow.Rule.Slice.PartMut.{put_mid}
use lib.Bits.{bit_or, bit_xor, or_add_and, xor_add_and, and_le_l, and_le_r, xor_self}
use lib.Seq.{take-nil, drop-nil}
use Rattle.std.specs.List.{AllByRecursion}
use Rattle.std.proofs.lemmas.List.{append-nil, length-append, length-take, length-drop, length-replicate, take_all, drop_all, take-replicate, take_at, drop_at, take_more, drop-drop}
use Rattle.std.proofs.lemmas.Bool.{and_parts, eqb-true, eq-eqb, cases_Bool, and_from, leb-true, le-leb, cond_both, cond-true}
use Rattle.std.proofs.lemmas.Bool.Decides.{nat_tests}
use Rattle.octets.specs.Octets.{zeros, over, wiped, placed, same}

-- what holds of a value holds of each of its copies
pub all_replicate : {X : Type 0} (P : X → Type 0) (n : ℕ) (x : X) → P x → AllByRecursion P (replicate n x)
all_replicate P zero x h = tt
all_replicate P (suc n) x h = (h, all_replicate P n x h)

-- `over`

pub length_over : (xs ys : List ℕ) → length (over xs ys) ≡ length ys
length_over xs ys = simp (length-append, length-take, length-drop) (omega arith)

pub over-nil : (ys : List ℕ) → over [] ys ≡ ys
over-nil ys = ap (λ zs. zs ++ ys) (take-nil (length ys))

pub over-fits : (xs ys : List ℕ) → length xs ≤ length ys → over xs ys ≡ xs ++ drop (length xs) ys
over-fits xs ys h = rw (take_all (length ys) xs h)

pub over_past : (xs ys : List ℕ) → length ys ≤ length xs → over xs ys ≡ take (length ys) xs
over_past xs ys h = rw (drop_all (length xs) ys h, append-nil)

pub over_all : (xs ys : List ℕ) → length xs ≡ length ys → over xs ys ≡ xs
over_all xs ys e = over_past xs ys (omega arith) ∙ take_all (length ys) xs (omega arith)

pub take-over : (n : ℕ) (xs ys : List ℕ) → take n (over xs ys) ≡ over (take n xs) (take n ys)
take-over zero xs ys = refl
take-over (suc n) [] ys = simp over-nil
take-over (suc n) (x ∷ xs) [] = simp drop-nil
take-over (suc n) (x ∷ xs) (y ∷ ys) = ap (λ zs. x ∷ zs) (take-over n xs ys)

pub drop-over : (n : ℕ) (xs ys : List ℕ) → drop n (over xs ys) ≡ over (drop n xs) (drop n ys)
drop-over zero xs ys = refl
drop-over (suc n) [] ys = simp over-nil
drop-over (suc n) (x ∷ xs) [] = simp drop-nil
drop-over (suc n) (x ∷ xs) (y ∷ ys) = drop-over n xs ys

-- what was written, and what lies past it
pub take-over-front : (xs ys : List ℕ) → length xs ≤ length ys → take (length xs) (over xs ys) ≡ xs
take-over-front xs ys h = ap (take (length xs)) (over-fits xs ys h) ∙ take_at xs (drop (length xs) ys) (length xs) refl

pub drop-over-rest : (xs ys : List ℕ) → drop (length xs) (over xs ys) ≡ drop (length xs) ys
drop-over-rest xs ys =
    drop-over (length xs) xs ys ∙ rw (drop_all (length xs) xs (omega arith)) (over-nil (drop (length xs) ys))

-- a write of no more bytes than the next one leaves no trace
pub over-over : (xs zs ys : List ℕ) → length zs ≤ length xs → over xs (over zs ys) ≡ over xs ys
over-over xs zs ys h =
    rw (length_over zs ys, drop-over (length xs) zs ys, drop_all (length xs) zs h, over-nil (drop (length xs) ys))

-- two parts in a row
pub over-append : (xs zs ys : List ℕ) → over (xs ++ zs) ys ≡ over xs (take (length xs) ys) ++ over zs (drop (length xs) ys)
over-append [] zs ys = refl
over-append (x ∷ xs) zs [] = sym (drop-nil (length zs))
over-append (x ∷ xs) zs (y ∷ ys) = ap (λ r. x ∷ r) (over-append xs zs ys)

-- `wiped`

pub wiped-fits : (n : ℕ) (ys : List ℕ) → n ≤ length ys → wiped n ys ≡ zeros n ++ drop n ys
wiped-fits n ys h =
    over-fits (zeros n) ys (simp length-replicate h) ∙ ap (λ k. zeros n ++ drop k ys) (length-replicate n 0)

pub wiped_all : (n : ℕ) (ys : List ℕ) → length ys ≤ n → wiped n ys ≡ zeros (length ys)
wiped_all n ys h = over_past (zeros n) ys (simp length-replicate h) ∙ take-replicate (length ys) n 0 h

-- `placed`

pub placed-fits : (at : ℕ) (xs ys : List ℕ) → at + length xs ≤ length ys → placed at xs ys ≡ take at ys ++ (xs ++ drop (at + length xs) ys)
placed-fits at xs ys h = cond-true _ _ _ (le-leb _ _ h)

pub placed_part : (at k : ℕ) (zs xs ys : List ℕ) → at + length xs ≤ length ys → k ≡ length xs → zs ≡ xs → put_mid at k ys zs ≡ placed at xs ys
placed_part at k zs xs ys h e f = rw (e, f, drop-drop) (sym (placed-fits at xs ys h))

pub length-placed : (at : ℕ) (xs ys : List ℕ) → length (placed at xs ys) ≡ length ys
length-placed at xs ys =
    cond_both (leb (at + length xs) (length ys)) (take at ys ++ (xs ++ drop (at + length xs) ys)) ys
    (λ zs. length zs ≡ length ys)
    (λ e. let h = leb-true (at + length xs) (length ys) e in
    simp (length-append, length-take, length-drop) (omega arith))
    (λ e. refl)

-- what is written right behind xs, where xs was written over the start
pub placed_behind : (at : ℕ) (xs ys out : List ℕ) → length xs ≡ at → at + length ys ≤ length out → placed at ys (over xs out) ≡ over (xs ++ ys) out
placed_behind at xs ys out e room =
    let rest = drop (length xs) out in
    let fits : at + length ys ≤ length (xs ++ rest) = simp (length-append, length-drop) (omega arith) in
    let behind : drop (at + length ys) (xs ++ rest) ≡ drop (length (xs ++ ys)) out =
    sym (drop-drop (length ys) at (xs ++ rest))
    ∙ (ap (drop (length ys)) (drop_at xs rest at e)
    ∙ (drop-drop (length ys) (length xs) out ∙ ap (λ m. drop m out) (sym (length-append xs ys)))) in
    ap (placed at ys) (over-fits xs out (omega arith))
    ∙ (placed-fits at ys (xs ++ rest) fits
    ∙ (ap (λ m. m ++ (ys ++ drop (at + length ys) (xs ++ rest))) (take_at xs rest at e)
    ∙ (ap (λ m. xs ++ (ys ++ m)) behind
    ∙ (sym (append_assoc xs ys (drop (length (xs ++ ys)) out)) ∙ sym (over-fits (xs ++ ys) out (simp length-append (omega arith)))))))

-- `same`
pub same_refl : (xs : List ℕ) → same xs xs ≡ true
same_refl [] = refl
same_refl (x ∷ xs) = and_from _ _ (eq-eqb x x refl) (same_refl xs)

pub same_true : (xs ys : List ℕ) → same xs ys ≡ true → xs ≡ ys
same_true [] [] h = refl
same_true [] (y ∷ ys) h = absurd (let z : ◌≡◌ {A = ℕ} 0 1 = cc in omega arith)
same_true (x ∷ xs) [] h = absurd (let z : ◌≡◌ {A = ℕ} 0 1 = cc in omega arith)
same_true (x ∷ xs) (y ∷ ys) h = let p = and_parts (eqb x y) (same xs ys) h in let e = eqb-true x y p.0 in let f = same_true xs ys p.1 in cc

pub same-lengths : (xs ys : List ℕ) → (length xs ≡ length ys → ⊥) → same xs ys ≡ false
same-lengths xs ys h = ⊎_elim (λ t. absurd (h (ap length (same_true xs ys t)))) (λ f. f) (cases_Bool (same xs ys))

and_assoc : (a b c : Bool) → (a && b) && c ≡ a && (b && c)
and_assoc true b c = refl
and_assoc false b c = refl

and_true : (b : Bool) → b && true ≡ b
and_true true = refl
and_true false = refl

pub same_push : (xs ys : List ℕ) (x y : ℕ) → length xs ≡ length ys → same (xs ++ (x ∷ [])) (ys ++ (y ∷ [])) ≡ same xs ys && eqb x y
same_push [] [] x y e = and_true (eqb x y)
same_push [] (b ∷ ys) x y e = absurd (omega arith)
same_push (a ∷ xs) [] x y e = absurd (omega arith)
same_push (a ∷ xs) (b ∷ ys) x y e =
    ap (λ t. eqb a b && t) (same_push xs ys x y (omega arith)) ∙ sym (and_assoc (eqb a b) (same xs ys) (eqb x y))

-- the step of a comparison: the differences so far, and those of one more pair of bytes
pub no_difference : (d x y : ℕ) → eqb (bit_or d (bit_xor x y)) 0 ≡ eqb d 0 && eqb x y
no_difference d x y =
    let or = or_add_and d (bit_xor x y) in
    let or_l = and_le_l d (bit_xor x y) in
    let or_r = and_le_r d (bit_xor x y) in
    let xor = xor_add_and x y in
    let xor-l = and_le_l x y in
    let xor-r = and_le_r x y in
    let none : x ≡ y → bit_xor x y ≡ 0 = λ e. ap (λ z. bit_xor x z) (sym e) ∙ xor_self x in
    grind (arith, nat_tests)

pub same_more : (xs ys : List ℕ) (i d : ℕ) → length xs ≡ length ys → i < length xs → same (take i xs) (take i ys) ≡ eqb d 0 → same (take (i + 1) xs) (take (i + 1) ys) ≡ eqb (bit_or d (bit_xor (get_or xs i 0) (get_or ys i 0))) 0
same_more xs ys i d e h so =
    rw (take_more xs i 0 h, take_more ys i 0 (omega arith))
    (same_push (take i xs) (take i ys) (get_or xs i 0) (get_or ys i 0) (simp length-take (omega arith))
    ∙ ap (λ t. t && eqb (get_or xs i 0) (get_or ys i 0)) so
    ∙ sym (no_difference d (get_or xs i 0) (get_or ys i 0)))
