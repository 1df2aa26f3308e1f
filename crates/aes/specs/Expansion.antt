-- How the schedule of a key grows, word by word, and how long it gets. Assumes nothing.
use Rattle.std.specs.Prelude.{◌≡◌, ℕ, zero, suc, ◌+◌, ◌-◌, ◌*◌, ◌/◌, ◌%◌, ◌<◌, ◌≤◌, Bool, true, false, cond, ◌&&◌, ◌⊎◌, List, [], ◌∷◌, ◌++◌, length, take, drop, Some, None, ◌==◌, bit_xor, nat_lt, slice_index, slice_index_or, refl}
use Rattle.std.proofs.Common.{inl, inr, ⊎_elim, sym, ap, ◌∙◌, add-zero, add-one, arith}
use Rattle.std.specs.Int.Bits.{xor_zero_r}
use Rattle.std.proofs.lemmas.List.FromFn.{fill_by_all}
use Rattle.std.proofs.ByRecursion.{All-append, All-take, All-drop}
use Rattle.std.proofs.lemmas.List.{length-append, length-take, length-drop, length-take-le, take-append-drop, take-append-le, drop-append-le, get_or-take, get_or-drop}
use Rattle.std.proofs.lemmas.Bool.{cond_both, eqb-true}
use Rattle.octets.specs.Octets.{Octets, over, placed}
use Rattle.octets.proofs.Octets.{over-fits, over-over, take-over-front, placed_behind}
use Rattle.block.specs.Xor.{xored}
use Rattle.block.proofs.Sums.{length-xored, octets-xored}
use Rattle.fips197.specs.Boxes.{s_box}
use Rattle.aes.specs.Schedule.{scheduled, word, rot_word, sub_word, rcon_table, rcon, changed, next_word, grown, expanded}
use Rattle.fips197.proofs.SBoxes.{s_box-lt}
use Rattle.fips197.proofs.States.{get_or-lt, octets_replaced}

-- words

four : (t : List ℕ) → length t ≡ 4 → t ≡ slice_index t 0 ∷ slice_index t 1 ∷ slice_index t 2 ∷ slice_index t 3 ∷ []
four t e = fill_by_all (λ k. slice_index t k) t 4 0 e (λ k l. refl)

pub four_at : (w : List ℕ) (i : ℕ) → i + 4 ≤ length w → slice_index w i ∷ slice_index w (i + 1) ∷ slice_index w (i + 2) ∷ slice_index w (i + 3) ∷ [] ≡ take 4 (drop i w)
four_at w i h =
    let part = take 4 (drop i w) in
    let sized : length part ≡ 4 = simp (length-take, length-drop) (omega arith) in
    let read : (k : ℕ) → k < 4 → slice_index part k ≡ slice_index_or w (i + k) 0 = λ k l. get_or-take 4 (drop i w) k 0 l ∙ get_or-drop i w k 0 in
    let first : slice_index_or part 0 0 ≡ slice_index_or w i 0 = read 0 (omega arith) ∙ ap (λ m. slice_index w m) (add-zero i) in
    let second = read 1 (omega arith) in
    let third = read 2 (omega arith) in
    let fourth = read 3 (omega arith) in
    let out : slice_index_or w i 0 ∷ slice_index w (i + 1) ∷ slice_index w (i + 2) ∷ slice_index w (i + 3) ∷ [] ≡ slice_index part 0 ∷ slice_index part 1 ∷ slice_index part 2 ∷ slice_index part 3 ∷ [] = cc in
    out ∙ sym (four part sized)

pub sub_word_out : (t : List ℕ) {a b c d : ℕ} → length t ≡ 4 → a ≡ s_box (slice_index t 0) → b ≡ s_box (slice_index t 1) → c ≡ s_box (slice_index t 2) → d ≡ s_box (slice_index t 3) → a ∷ b ∷ c ∷ d ∷ [] ≡ sub_word t
sub_word_out t {a} {b} {c} {d} e h₀ h₁ h₂ h₃ =
    let out : a ∷ b ∷ c ∷ d ∷ [] ≡ s_box (slice_index t 0) ∷ s_box (slice_index t 1) ∷ s_box (slice_index t 2) ∷ s_box (slice_index t 3) ∷ [] = cc in
    out ∙ sym (ap sub_word (four t e))

pub turned_out : (t : List ℕ) (j : ℕ) {a b c d k : ℕ} → length t ≡ 4 → a ≡ s_box (slice_index t 1) → b ≡ s_box (slice_index t 2) → c ≡ s_box (slice_index t 3) → d ≡ s_box (slice_index t 0) → k ≡ slice_index rcon_table (j - 1)
    → bit_xor a k ∷ b ∷ c ∷ d ∷ [] ≡ xored (sub_word (rot_word t)) (rcon j)
turned_out t j {a} {b} {c} {d} {k} e h₀ h₁ h₂ h₃ h₄ =
    let zero₁ = xor_zero_r (s_box (slice_index t 2)) in
    let zero₂ = xor_zero_r (s_box (slice_index t 3)) in
    let zero₃ = xor_zero_r (s_box (slice_index t 0)) in
    let out : bit_xor a k ∷ b ∷ c ∷ d ∷ [] ≡ bit_xor (s_box (slice_index t 1)) (slice_index rcon_table (j - 1)) ∷ bit_xor (s_box (slice_index t 2)) 0 ∷ bit_xor (s_box (slice_index t 3)) 0 ∷ bit_xor (s_box (slice_index t 0)) 0 ∷ [] = cc in
    out ∙ sym (ap (λ u. xored (sub_word (rot_word u)) (rcon j)) (four t e))

word-front : (g rest : List ℕ) (i : ℕ) → 4 * i + 4 ≤ length g → word (g ++ rest) i ≡ word g i
unfolding word
word-front g rest i h =
    ap (take 4) (drop-append-le (4 * i) g rest (omega arith))
    ∙ take-append-le 4 (drop (4 * i) g) rest (simp length-drop (omega arith))

length-word : (w : List ℕ) (i : ℕ) → 4 * i + 4 ≤ length w → length (word w i) ≡ 4
unfolding word
length-word w i h = simp (length-take, length-drop) (omega arith)

length-next_word : (nk : ℕ) (w : List ℕ) (i : ℕ) → 1 ≤ nk → nk ≤ i → 4 * i ≤ length w → length (next_word nk w i) ≡ 4
unfolding next_word
length-next_word nk w i one past h =
    length-xored (word w (i - nk)) (changed nk (word w (i - 1)) i) ∙ length-word w (i - nk) (omega arith)

next_word-front : (nk : ℕ) (g rest : List ℕ) (i : ℕ) → 1 ≤ nk → nk ≤ i → 4 * i ≤ length g → next_word nk (g ++ rest) i ≡ next_word nk g i
unfolding next_word
next_word-front nk g rest i one past h =
    rw (word-front g rest (i - nk) (omega arith), word-front g rest (i - 1) (omega arith))

-- lengths

length-grown : (nk n : ℕ) (key : List ℕ) → 1 ≤ nk → length key ≡ 4 * nk → length (grown nk n key) ≡ 4 * (nk + n)
unfolding grown
length-grown nk zero key one e = omega arith
length-grown nk (suc n) key one e =
    let g = grown nk n key in
    let before : length g ≡ 4 * (nk + n) = length-grown nk n key one e in
    let next = length-next_word nk g (nk + n) one (omega arith) (omega arith) in
    length-append g (next_word nk g (nk + n)) ∙ omega arith

pub length-expanded : (key : List ℕ) → 4 ≤ length key → length key ≡ 4 * (length key / 4) → length (expanded key) ≡ 16 * (length key / 4 + 7)
unfolding expanded
length-expanded key four' whole =
    let nk = length key / 4 in
    length-grown nk (4 * (nk + 7) - nk) key (omega arith) whole ∙ omega arith

-- the lengths of a key and of its schedule, where such keys are taken
pub record Sizes (n m : ℕ) : Type 0 where
  pub least : 16 ≤ n
  pub whole : n ≡ 4 * (n / 4)
  pub sized : m ≡ 16 * (n / 4 + 7)

scheduled_cases : (s t : Bool) (m : ℕ) → cond s (Some 176) (cond t (Some 240) None) ≡ Some m → ((s ≡ true) × (m ≡ 176)) ⊎ ((t ≡ true) × (m ≡ 240))
scheduled_cases true t m h = inl (refl, cc)
scheduled_cases false true m h = inr (refl, cc)
scheduled_cases false false m h = absurd (let no' : ◌≡◌ {A = ℕ} 0 1 = cc in omega arith)

pub scheduled-sizes : (n m : ℕ) → scheduled n ≡ Some m → Sizes n m
scheduled-sizes n m h =
    ⊎_elim
    (λ p. let e = eqb-true n 16 p.0 in let f = p.1 in record { least = omega arith; whole = omega arith; sized = omega arith })
    (λ p. let e = eqb-true n 32 p.0 in let f = p.1 in record { least = omega arith; whole = omega arith; sized = omega arith })
    (scheduled_cases (n == 16) (n == 32) m h)

-- bytes

octets-rcon_table : Octets rcon_table
octets-rcon_table =
    (omega arith, (omega arith, (omega arith, (omega arith, (omega arith, (omega arith, (omega arith, (omega arith, (omega arith, (omega arith, tt))))))))))

octets-rcon : (j : ℕ) → Octets (rcon j)
octets-rcon j = (get_or-lt rcon_table (j - 1) octets-rcon_table, (omega arith, (omega arith, (omega arith, tt))))

octets-changed : (nk : ℕ) (t : List ℕ) (i : ℕ) → Octets t → Octets (changed nk t i)
unfolding changed
octets-changed nk t i o =
    let turned = All-append (λ x. x < 256) (drop 1 t) (take 1 t) (All-drop (λ x. x < 256) 1 t o) (All-take (λ x. x < 256) 1 t o) in
    cond_both (i % nk == 0) _ _ Octets
    (λ e. octets-xored (sub_word (rot_word t)) (rcon (i / nk)) (octets_replaced s_box s_box-lt (rot_word t) turned) (octets-rcon (i / nk)))
    (λ e. cond_both (nat_lt 6 nk && i % nk == 4) _ _ Octets (λ f. octets_replaced s_box s_box-lt t o) (λ f. o))

octets-word : (w : List ℕ) (i : ℕ) → Octets w → Octets (word w i)
unfolding word
octets-word w i o = All-take (λ x. x < 256) 4 (drop (4 * i) w) (All-drop (λ x. x < 256) (4 * i) w o)

octets-grown : (nk n : ℕ) (key : List ℕ) → Octets key → Octets (grown nk n key)
unfolding grown next_word
octets-grown nk zero key o = o
octets-grown nk (suc n) key o =
    let g = grown nk n key in
    let i = nk + n in
    let before = octets-grown nk n key o in
    All-append (λ x. x < 256) g (next_word nk g i) before
    (octets-xored (word g (i - nk)) (changed nk (word g (i - 1)) i) (octets-word g (i - nk) before)
    (octets-changed nk (word g (i - 1)) i (octets-word g (i - 1) before)))

pub octets-expanded : (key : List ℕ) → Octets key → Octets (expanded key)
unfolding expanded
octets-expanded key o = octets-grown (length key / 4) (4 * (length key / 4 + 7) - length key / 4) key o

-- the schedule in a work area

pub grown-none : (n nk : ℕ) (work : List ℕ) → n ≤ length work → work ≡ over (grown nk 0 (take n work)) work
unfolding grown
grown-none n nk work h =
    let sized = length-take-le n work h in
    sym (over-fits (take n work) work (omega arith) ∙ (ap (λ m. take n work ++ drop m work) sized ∙ take-append-drop n work))

pub grown_more : (nk m : ℕ) (key old u r : List ℕ) → 1 ≤ nk → length key ≡ 4 * nk → 4 * (nk + m) + 4 ≤ length old → u ≡ over (grown nk m key) old
    → r ≡ placed (4 * (nk + m)) (next_word nk u (nk + m)) u → r ≡ over (grown nk (m + 1) key) old
unfolding grown
grown_more nk m key old u r one e room before here =
    let g = grown nk m key in
    let i = nk + m in
    let sized : length g ≡ 4 * i = length-grown nk m key one e in
    let next = next_word nk g i in
    let long = length-next_word nk g i one (omega arith) (omega arith) in
    let read : next_word nk (over g old) i ≡ next =
    ap (λ v. next_word nk v i) (over-fits g old (omega arith)) ∙ next_word-front nk g (drop (length g) old) i one (omega arith) (omega arith) in
    here
    ∙ (ap (λ v. placed (4 * i) (next_word nk v i) v) before
    ∙ (ap (λ y. placed (4 * i) y (over g old)) read
    ∙ (placed_behind (4 * i) g next old sized (omega arith) ∙ rw add-one refl)))

pub expanded-over : (key old u r : List ℕ) → 16 ≤ length key → length key ≡ 4 * (length key / 4) → 16 * (length key / 4 + 7) ≤ length old → u ≡ over key old
    → r ≡ over (grown (length key / 4) (4 * (length key / 4 + 7) - length key / 4) (take (4 * (length key / 4)) u)) u → r ≡ over (expanded key) old
unfolding expanded
expanded-over key old u r least whole room before here =
    let nk = length key / 4 in
    let sized = length-expanded key (omega arith) whole in
    let front : take (4 * nk) (over key old) ≡ key =
    ap (λ m. take m (over key old)) (sym whole) ∙ take-over-front key old (omega arith) in
    here
    ∙ (ap (λ v. over (grown nk (4 * (nk + 7) - nk) (take (4 * nk) v)) v) before
    ∙ (ap (λ k. over (grown nk (4 * (nk + 7) - nk) k) (over key old)) front ∙ over-over (expanded key) key old (omega arith)))
