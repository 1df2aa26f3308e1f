-- The transformations keep a state a state, and their inverses undo them. Assumes nothing.
use Rattle.std.proofs.Common.{◌≡◌, ℕ, zero, suc, ◌+◌, ◌-◌, ◌*◌, ◌/◌, ◌%◌, ◌<◌, List, [], ◌∷◌, map, length, get_or, sym, refl, ap, ◌∙◌, subst, arith}
use Rattle.std.specs.List.{range_with_len}
use Rattle.std.proofs.lemmas.List.FromFn.{fill_by_all}
use Rattle.std.proofs.lemmas.List.{length-map}
use Rattle.octets.specs.Octets.{Octets}
use Rattle.block.proofs.Sums.{length-xored, octets-xored, xored_twice}
use Rattle.fips197.specs.Boxes.{s_box, inv_s_box}
use Rattle.fips197.specs.State.{at, filled, mixed, inv_mixed, mix_by, sub_bytes, inv_sub_bytes, shift_rows, inv_shift_rows, mix_columns, inv_mix_columns, add_round_key}
use Rattle.fips197.proofs.SBoxes.{s_box-lt, inv_s_box-lt, inv_s_box-s_box, s_box-inv_s_box}
use Rattle.fips197.proofs.Products.{mixed-lt, inv_mixed-lt, Undoes, unmixed, remixed, prepared, mixed-prepared}

-- 16 bytes
pub record State (s : List ℕ) : Type 0 where
  pub sized : length s ≡ 16
  pub bytes : Octets s

-- what holds of every list that is written out as 16 elements holds of every list of 16
pub sixteen : (P : List ℕ → Type 0)
    → ((a₀ a₁ a₂ a₃ b₀ b₁ b₂ b₃ c₀ c₁ c₂ c₃ d₀ d₁ d₂ d₃ : ℕ) → P (a₀ ∷ a₁ ∷ a₂ ∷ a₃ ∷ b₀ ∷ b₁ ∷ b₂ ∷ b₃ ∷ c₀ ∷ c₁ ∷ c₂ ∷ c₃ ∷ d₀ ∷ d₁ ∷ d₂ ∷ d₃ ∷ []))
    → (s : List ℕ) → length s ≡ 16 → P s
sixteen P h s e =
    subst P (sym (fill_by_all (λ k. get_or s k 0) s 16 0 e (λ k l. refl)))
    (h (get_or s 0 0) (get_or s 1 0) (get_or s 2 0) (get_or s 3 0) (get_or s 4 0) (get_or s 5 0) (get_or s 6 0) (get_or s 7 0) (get_or s 8 0) (get_or s 9 0) (get_or s 10 0) (get_or s 11 0) (get_or s 12 0) (get_or s 13 0) (get_or s 14 0) (get_or s 15 0))

cons : {x y : ℕ} {xs ys : List ℕ} → x ≡ y → xs ≡ ys → x ∷ xs ≡ y ∷ ys
cons p q = cc

-- a state that is written out, byte by byte
pub written_out : (f : ℕ → ℕ → ℕ) {r₀ r₁ r₂ r₃ r₄ r₅ r₆ r₇ r₈ r₉ r₁₀ r₁₁ r₁₂ r₁₃ r₁₄ r₁₅ : ℕ}
    → r₀ ≡ f 0 0 → r₁ ≡ f 1 0 → r₂ ≡ f 2 0 → r₃ ≡ f 3 0 → r₄ ≡ f 0 1 → r₅ ≡ f 1 1 → r₆ ≡ f 2 1 → r₇ ≡ f 3 1 → r₈ ≡ f 0 2 → r₉ ≡ f 1 2 → r₁₀ ≡ f 2 2 → r₁₁ ≡ f 3 2 → r₁₂ ≡ f 0 3 → r₁₃ ≡ f 1 3 → r₁₄ ≡ f 2 3 → r₁₅ ≡ f 3 3
    → r₀ ∷ r₁ ∷ r₂ ∷ r₃ ∷ r₄ ∷ r₅ ∷ r₆ ∷ r₇ ∷ r₈ ∷ r₉ ∷ r₁₀ ∷ r₁₁ ∷ r₁₂ ∷ r₁₃ ∷ r₁₄ ∷ r₁₅ ∷ [] ≡ filled f
written_out f e₀ e₁ e₂ e₃ e₄ e₅ e₆ e₇ e₈ e₉ e₁₀ e₁₁ e₁₂ e₁₃ e₁₄ e₁₅ =
    cons e₀ (cons e₁ (cons e₂ (cons e₃ (cons e₄ (cons e₅ (cons e₆ (cons e₇ (cons e₈ (cons e₉ (cons e₁₀ (cons e₁₁ (cons e₁₂ (cons e₁₃ (cons e₁₄ (cons e₁₅ (refl))))))))))))))))

pub shift_rows-sub_bytes : (s : List ℕ) → length s ≡ 16 → filled (λ r c. s_box (at s r ((c + r) % 4))) ≡ shift_rows (sub_bytes s)
unfolding shift_rows sub_bytes
shift_rows-sub_bytes s e =
    sixteen (λ u. filled (λ r c. s_box (at u r ((c + r) % 4))) ≡ shift_rows (sub_bytes u)) (λ a₀ a₁ a₂ a₃ b₀ b₁ b₂ b₃ c₀ c₁ c₂ c₃ d₀ d₁ d₂ d₃. refl) s e

pub mix_columns-prepared : (s : List ℕ) → mix_columns (mix_by (λ a b c d. prepared a c) s) ≡ inv_mix_columns s
unfolding mix_columns inv_mix_columns
mix_columns-prepared s =
    let made = λ (r c : ℕ). inv_mixed (at s r c) (at s ((r + 1) % 4) c) (at s ((r + 2) % 4) c) (at s ((r + 3) % 4) c) in
    let at_place = λ (r c : ℕ). mixed-prepared (at s r c) (at s ((r + 1) % 4) c) (at s ((r + 2) % 4) c) (at s ((r + 3) % 4) c) in
    written_out made (at_place 0 0) (at_place 1 0) (at_place 2 0) (at_place 3 0) (at_place 0 1) (at_place 1 1) (at_place 2 1) (at_place 3 1) (at_place 0 2) (at_place 1 2) (at_place 2 2) (at_place 3 2) (at_place 0 3) (at_place 1 3) (at_place 2 3) (at_place 3 3)

-- bytes

pub get_or-lt : (s : List ℕ) (k : ℕ) → Octets s → get_or s k 0 < 256
get_or-lt [] k o = omega arith
get_or-lt (x ∷ s) zero o = o.0
get_or-lt (x ∷ s) (suc k) o = get_or-lt s k o.1

octets-map : (f : ℕ → ℕ) → ((x : ℕ) → f x < 256) → (xs : List ℕ) → Octets (map f xs)
octets-map f h [] = tt
octets-map f h (x ∷ xs) = (h x, octets-map f h xs)

pub octets_replaced : (f : ℕ → ℕ) → ((x : ℕ) → x < 256 → f x < 256) → (xs : List ℕ) → Octets xs → Octets (map f xs)
octets_replaced f h [] o = tt
octets_replaced f h (x ∷ xs) o = (h x o.0, octets_replaced f h xs o.1)

state_filled : (f : ℕ → ℕ → ℕ) → ((r c : ℕ) → f r c < 256) → State (filled f)
state_filled f h = record { sized = refl; bytes = octets-map (λ k. f (k % 4) (k / 4)) (λ k. h (k % 4) (k / 4)) (range_with_len 0 16) }

state_replaced : (f : ℕ → ℕ) → ((x : ℕ) → x < 256 → f x < 256) → (s : List ℕ) → State s → State (map f s)
state_replaced f h s st = record { sized = length-map s f ∙ st.sized; bytes = octets_replaced f h s st.bytes }

state_mixed : (f : ℕ → ℕ → ℕ → ℕ → ℕ) → ((a b c d : ℕ) → a < 256 → b < 256 → c < 256 → d < 256 → f a b c d < 256) → (s : List ℕ) → State s → State (mix_by f s)
state_mixed f h s st =
    state_filled (λ r c. f (at s r c) (at s ((r + 1) % 4) c) (at s ((r + 2) % 4) c) (at s ((r + 3) % 4) c))
    (λ r c. h (at s r c) (at s ((r + 1) % 4) c) (at s ((r + 2) % 4) c) (at s ((r + 3) % 4) c)
    (get_or-lt s (4 * c + r) st.bytes) (get_or-lt s (4 * c + (r + 1) % 4) st.bytes)
    (get_or-lt s (4 * c + (r + 2) % 4) st.bytes) (get_or-lt s (4 * c + (r + 3) % 4) st.bytes))

pub state_sub_bytes : (s : List ℕ) → State s → State (sub_bytes s)
unfolding sub_bytes
state_sub_bytes s st = state_replaced s_box s_box-lt s st

pub state_inv_sub_bytes : (s : List ℕ) → State s → State (inv_sub_bytes s)
unfolding inv_sub_bytes
state_inv_sub_bytes s st = state_replaced inv_s_box inv_s_box-lt s st

pub state_shift_rows : (s : List ℕ) → State s → State (shift_rows s)
unfolding shift_rows
state_shift_rows s st = state_filled (λ r c. at s r ((c + r) % 4)) (λ r c. get_or-lt s (4 * ((c + r) % 4) + r) st.bytes)

pub state_inv_shift_rows : (s : List ℕ) → State s → State (inv_shift_rows s)
unfolding inv_shift_rows
state_inv_shift_rows s st = state_filled (λ r c. at s r ((c + 4 - r) % 4)) (λ r c. get_or-lt s (4 * ((c + 4 - r) % 4) + r) st.bytes)

pub state_mix_columns : (s : List ℕ) → State s → State (mix_columns s)
unfolding mix_columns
state_mix_columns s st = state_mixed mixed mixed-lt s st

pub state_inv_mix_columns : (s : List ℕ) → State s → State (inv_mix_columns s)
unfolding inv_mix_columns
state_inv_mix_columns s st = state_mixed inv_mixed inv_mixed-lt s st

pub state_add_round_key : (k s : List ℕ) → Octets k → State s → State (add_round_key k s)
unfolding add_round_key
state_add_round_key k s o st = record { sized = length-xored s k ∙ st.sized; bytes = octets-xored s k st.bytes o }

-- inverses

replaced_back : (f g : ℕ → ℕ) → ((x : ℕ) → x < 256 → g (f x) ≡ x) → (xs : List ℕ) → Octets xs → map g (map f xs) ≡ xs
replaced_back f g h [] o = refl
replaced_back f g h (x ∷ xs) o =
    ap (λ y. y ∷ map g (map f xs)) (h x o.0) ∙ ap (λ ys. x ∷ ys) (replaced_back f g h xs o.1)

pub inv_sub_bytes-sub_bytes : (s : List ℕ) → State s → inv_sub_bytes (sub_bytes s) ≡ s
unfolding sub_bytes inv_sub_bytes
inv_sub_bytes-sub_bytes s st = replaced_back s_box inv_s_box inv_s_box-s_box s st.bytes

pub sub_bytes-inv_sub_bytes : (s : List ℕ) → State s → sub_bytes (inv_sub_bytes s) ≡ s
unfolding sub_bytes inv_sub_bytes
sub_bytes-inv_sub_bytes s st = replaced_back inv_s_box s_box s_box-inv_s_box s st.bytes

pub inv_shift_rows-shift_rows : (s : List ℕ) → State s → inv_shift_rows (shift_rows s) ≡ s
unfolding shift_rows inv_shift_rows
inv_shift_rows-shift_rows s st =
    sixteen (λ u. inv_shift_rows (shift_rows u) ≡ u) (λ a₀ a₁ a₂ a₃ b₀ b₁ b₂ b₃ c₀ c₁ c₂ c₃ d₀ d₁ d₂ d₃. refl) s st.sized

pub shift_rows-inv_shift_rows : (s : List ℕ) → State s → shift_rows (inv_shift_rows s) ≡ s
unfolding shift_rows inv_shift_rows
shift_rows-inv_shift_rows s st =
    sixteen (λ u. shift_rows (inv_shift_rows u) ≡ u) (λ a₀ a₁ a₂ a₃ b₀ b₁ b₂ b₃ c₀ c₁ c₂ c₃ d₀ d₁ d₂ d₃. refl) s st.sized

mixed_back : (f g : ℕ → ℕ → ℕ → ℕ → ℕ) → Undoes f g → (s : List ℕ) → length s ≡ 16 → Octets s → mix_by f (mix_by g s) ≡ s
mixed_back f g u =
    sixteen (λ s. Octets s → mix_by f (mix_by g s) ≡ s)
    (λ a₀ a₁ a₂ a₃ b₀ b₁ b₂ b₃ c₀ c₁ c₂ c₃ d₀ d₁ d₂ d₃ o.
    cons (u a₀ a₁ a₂ a₃ o.0 o.1.0 o.1.1.0 o.1.1.1.0)
    (cons (u a₁ a₂ a₃ a₀ o.1.0 o.1.1.0 o.1.1.1.0 o.0)
    (cons (u a₂ a₃ a₀ a₁ o.1.1.0 o.1.1.1.0 o.0 o.1.0)
    (cons (u a₃ a₀ a₁ a₂ o.1.1.1.0 o.0 o.1.0 o.1.1.0)
    (cons (u b₀ b₁ b₂ b₃ o.1.1.1.1.0 o.1.1.1.1.1.0 o.1.1.1.1.1.1.0 o.1.1.1.1.1.1.1.0)
    (cons (u b₁ b₂ b₃ b₀ o.1.1.1.1.1.0 o.1.1.1.1.1.1.0 o.1.1.1.1.1.1.1.0 o.1.1.1.1.0)
    (cons (u b₂ b₃ b₀ b₁ o.1.1.1.1.1.1.0 o.1.1.1.1.1.1.1.0 o.1.1.1.1.0 o.1.1.1.1.1.0)
    (cons (u b₃ b₀ b₁ b₂ o.1.1.1.1.1.1.1.0 o.1.1.1.1.0 o.1.1.1.1.1.0 o.1.1.1.1.1.1.0)
    (cons (u c₀ c₁ c₂ c₃ o.1.1.1.1.1.1.1.1.0 o.1.1.1.1.1.1.1.1.1.0 o.1.1.1.1.1.1.1.1.1.1.0 o.1.1.1.1.1.1.1.1.1.1.1.0)
    (cons (u c₁ c₂ c₃ c₀ o.1.1.1.1.1.1.1.1.1.0 o.1.1.1.1.1.1.1.1.1.1.0 o.1.1.1.1.1.1.1.1.1.1.1.0 o.1.1.1.1.1.1.1.1.0)
    (cons (u c₂ c₃ c₀ c₁ o.1.1.1.1.1.1.1.1.1.1.0 o.1.1.1.1.1.1.1.1.1.1.1.0 o.1.1.1.1.1.1.1.1.0 o.1.1.1.1.1.1.1.1.1.0)
    (cons (u c₃ c₀ c₁ c₂ o.1.1.1.1.1.1.1.1.1.1.1.0 o.1.1.1.1.1.1.1.1.0 o.1.1.1.1.1.1.1.1.1.0 o.1.1.1.1.1.1.1.1.1.1.0)
    (cons (u d₀ d₁ d₂ d₃ o.1.1.1.1.1.1.1.1.1.1.1.1.0 o.1.1.1.1.1.1.1.1.1.1.1.1.1.0 o.1.1.1.1.1.1.1.1.1.1.1.1.1.1.0 o.1.1.1.1.1.1.1.1.1.1.1.1.1.1.1.0)
    (cons (u d₁ d₂ d₃ d₀ o.1.1.1.1.1.1.1.1.1.1.1.1.1.0 o.1.1.1.1.1.1.1.1.1.1.1.1.1.1.0 o.1.1.1.1.1.1.1.1.1.1.1.1.1.1.1.0 o.1.1.1.1.1.1.1.1.1.1.1.1.0)
    (cons (u d₂ d₃ d₀ d₁ o.1.1.1.1.1.1.1.1.1.1.1.1.1.1.0 o.1.1.1.1.1.1.1.1.1.1.1.1.1.1.1.0 o.1.1.1.1.1.1.1.1.1.1.1.1.0 o.1.1.1.1.1.1.1.1.1.1.1.1.1.0)
    (cons (u d₃ d₀ d₁ d₂ o.1.1.1.1.1.1.1.1.1.1.1.1.1.1.1.0 o.1.1.1.1.1.1.1.1.1.1.1.1.0 o.1.1.1.1.1.1.1.1.1.1.1.1.1.0 o.1.1.1.1.1.1.1.1.1.1.1.1.1.1.0)
    (refl)))))))))))))))))

pub inv_mix_columns-mix_columns : (s : List ℕ) → State s → inv_mix_columns (mix_columns s) ≡ s
unfolding mix_columns inv_mix_columns
inv_mix_columns-mix_columns s st = mixed_back inv_mixed mixed unmixed s st.sized st.bytes

pub mix_columns-inv_mix_columns : (s : List ℕ) → State s → mix_columns (inv_mix_columns s) ≡ s
unfolding mix_columns inv_mix_columns
mix_columns-inv_mix_columns s st = mixed_back mixed inv_mixed remixed s st.sized st.bytes

pub add_round_key_twice : (k s : List ℕ) → add_round_key k (add_round_key k s) ≡ s
unfolding add_round_key
add_round_key_twice k s = xored_twice s k
