-- The rounds of a quarter, with its 20 words, are SHA-1's rounds at its places.
use Rattle.std.proofs.Common.{◌≡◌, ℕ, ◌+◌, ◌*◌, ◌/◌, ◌<◌, List, length, take, drop, get_or, ap, ◌∙◌, arith}
use Rattle.std.proofs.lemmas.List.{get_or-take, get_or-drop, length-take-le, length-drop}
use Rattle.chaining.specs.Turns.{turns}
use Rattle.chaining.proofs.Turns.{turns-after, turns_same}
use Rattle.sha.specs.Sha1.{round, round_at}

-- the quarter's words
abbrev pub words_of : List ℕ → ℕ → List ℕ
words_of w quarter = take 20 (drop (20 * quarter) w)

pub quarter_more : (w s : List ℕ) (quarter : ℕ) {u r : List ℕ} → length w ≡ 80 → quarter < 4 → u ≡ turns (round_at w) (20 * quarter) s → r ≡ turns (λ t. round quarter (get_or (words_of w quarter) t 0)) (length (words_of w quarter)) u → r ≡ turns (round_at w) (20 * quarter + 20) s
quarter_more w s quarter {u} long inside before here =
    let words = words_of w quarter in
    let count : length words ≡ 20 = length-take-le 20 (drop (20 * quarter) w) (omega (arith, length-drop {A = ℕ})) in
    here
    ∙ ap (λ n. turns (λ t. round quarter (get_or words t 0)) n u) count
    ∙ turns_same (λ t. round quarter (get_or words t 0)) (λ t. round_at w (20 * quarter + t)) 20 u
    (λ t v below.
    let place : quarter ≡ (20 * quarter + t) / 20 = omega arith in
    ap (λ x. round quarter x v) (get_or-take 20 (drop (20 * quarter) w) t 0 below ∙ get_or-drop (20 * quarter) w t 0)
    ∙ ap (λ q. round q (get_or w (20 * quarter + t) 0) v) place)
    ∙ turns-after (round_at w) (20 * quarter) 20 s u before
