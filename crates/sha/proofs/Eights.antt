-- Eight rounds with the chunks of a place are SHA-256's rounds from eight times that place on.
use Rattle.std.proofs.Common.{◌≡◌, ℕ, ◌+◌, ◌*◌, ◌<◌, List, take, drop, get_or, ap, ◌∙◌, arith}
use Rattle.std.proofs.lemmas.List.{get_or-take, get_or-drop}
use Rattle.chaining.specs.Turns.{turns}
use Rattle.chaining.proofs.Turns.{turns-after, turns_same}
use Rattle.sha.specs.Sha256.{K, round, round_at}

read_chunk : (xs chunk : List ℕ) (n t : ℕ) → chunk ≡ take 8 (drop (8 * n) xs) → t < 8 → get_or chunk t 0 ≡ get_or xs (8 * n + t) 0
read_chunk xs chunk n t is below =
    ap (λ ys. get_or ys t 0) is ∙ get_or-take 8 (drop (8 * n) xs) t 0 below ∙ get_or-drop (8 * n) xs t 0

pub eight_more : (w s constants words : List ℕ) (n : ℕ) {u r : List ℕ} → constants ≡ take 8 (drop (8 * n) K) → words ≡ take 8 (drop (8 * n) w) → u ≡ turns (round_at w) (8 * n) s → r ≡ turns (λ t. round (get_or constants t 0) (get_or words t 0)) 8 u → r ≡ turns (round_at w) (8 * (n + 1)) s
eight_more w s constants words n {u} of_K of_w before here =
    here
    ∙ turns_same (λ t. round (get_or constants t 0) (get_or words t 0)) (λ t. round_at w (8 * n + t)) 8 u
    (λ t v below.
    ap (λ k. round k (get_or words t 0) v) (read_chunk K constants n t of_K below)
    ∙ ap (λ x. round (get_or K (8 * n + t) 0) x v) (read_chunk w words n t of_w below))
    ∙ turns-after (round_at w) (8 * n) 8 s u before
    ∙ ap (λ k. turns (round_at w) k s) (omega arith)
