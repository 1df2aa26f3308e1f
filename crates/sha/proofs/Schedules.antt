-- The message schedules, word by word: the block's words, and then what a recurrence gives from words before.
use Rattle.std.proofs.Common.{◌≡◌, ℕ, zero, suc, ◌+◌, ◌-◌, ◌<◌, ◌≤◌, cond, ltb, List, map, length, take, set, refl, sym, ◌∙◌, subst, add-zero, arith, length-set}
use Rattle.std.specs.List.{range_with_len}
use Rattle.std.proofs.lemmas.List.{get_or-take}
use Rattle.std.proofs.lemmas.Bool.{le-ltb}
use Rattle.chaining.specs.Turns.{built, turns}
use Rattle.chaining.specs.Words.{block_word}
use Rattle.chaining.proofs.Turns.{built_more}
use Rattle.sha.specs.Sha1 as one
use Rattle.sha.specs.Sha256 as two

-- the rule of a schedule, of which `next` is the recurrence
abbrev pub joined : (List ℕ → ℕ → ℕ) → List ℕ → List ℕ → ℕ → ℕ
joined next block w t = cond (ltb t 16) (block_word block t) (next w t)

pub first_words : (next : List ℕ → ℕ → ℕ) (block : List ℕ) → map (block_word block) (range_with_len 0 16) ≡ built (joined next block) 16
unfolding built
first_words next block = refl

later : (next : List ℕ → ℕ → ℕ) (block w : List ℕ) (t : ℕ) → 16 ≤ t → joined next block w t ≡ next w t
later next block w t above = rw (le-ltb t 16 above) refl

pub word_more : (next : List ℕ → ℕ → ℕ) (block w : List ℕ) (t : ℕ) {x : ℕ} → 16 ≤ t → t < length w → next (take t w) t ≡ next w t → take t w ≡ built (joined next block) t → x ≡ next w t → take (t + 1) (set w t x) ≡ built (joined next block) (t + 1)
word_more next block w t above inside reads before here =
    let same = later next block (take t w) t above ∙ reads ∙ sym (later next block w t above) in
    built_more (joined next block) w t same inside before (here ∙ sym (later next block w t above))

-- each recurrence reads words before its place alone
pub sha1_reads : (w : List ℕ) (t : ℕ) → 16 ≤ t → one.expanded (take t w) t ≡ one.expanded w t
sha1_reads w t above =
    let three : t - 3 < t = omega arith in
    let eight : t - 8 < t = omega arith in
    let fourteen : t - 14 < t = omega arith in
    let sixteen : t - 16 < t = omega arith in
    simp get_or-take

sha256_reads : (w : List ℕ) (t : ℕ) → 16 ≤ t → two.expanded (take t w) t ≡ two.expanded w t
sha256_reads w t above =
    let second : t - 2 < t = omega arith in
    let seventh : t - 7 < t = omega arith in
    let fifteenth : t - 15 < t = omega arith in
    let sixteenth : t - 16 < t = omega arith in
    simp get_or-take

-- w is SHA-256's schedule up to place m
abbrev pub Upto : (block w : List ℕ) (m : ℕ) → Type 0
Upto block w m = (length w ≡ 64) × (take m w ≡ built (two.scheduled block) m)

-- n words more
pub further : (block w : List ℕ) (m n : ℕ) → 16 ≤ m → m + n ≤ 64 → Upto block w m → Upto block (turns (λ t. two.extended (m + t)) n w) (m + n)
unfolding turns
further block w m zero above fits before = subst (Upto block w) (sym (add-zero m)) before
further block w m (suc n) above fits before =
    let u = turns (λ t. two.extended (m + t)) n w in
    let so_far : Upto block u (m + n) = further block w m n above (omega arith) before in
    let next : m + n + 1 ≡ m + suc n = omega arith in
    let more = word_more two.expanded block u (m + n) (omega arith) (omega (arith, so_far.0)) (sha256_reads u (m + n) (omega arith)) so_far.1 refl in
    subst (Upto block (two.extended (m + n) u)) next (length-set u (m + n) (two.expanded u (m + n)) ∙ so_far.0, more)
