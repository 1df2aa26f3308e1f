-- One more turn of a loop, and its end.
use Rattle.std.proofs.Common.{◌≡◌, ℕ, zero, suc, ◌+◌, ◌<◌, List, [], ◌∷◌, ◌++◌, length, take, set, refl, sym, ap, ◌∙◌, add-zero, add-suc, add-one, arith}
use Rattle.std.proofs.lemmas.List.{take_more_set}
use Rattle.chaining.specs.Turns.{built, turns}

-- a loop that writes at each place what the rule gives, a rule that reads only the places before
pub built_more : (rule : List ℕ → ℕ → ℕ) (xs : List ℕ) (n : ℕ) {x : ℕ} → rule (take n xs) n ≡ rule xs n → n < length xs → take n xs ≡ built rule n → x ≡ rule xs n → take (n + 1) (set xs n x) ≡ built rule (n + 1)
unfolding built
built_more rule xs n {x} reads below before here =
    take_more_set xs n x below ∙ ap (λ (y : ℕ). take n xs ++ y ∷ []) (here ∙ sym reads) ∙ rw (before, add-one)

pub turns_more : (step : ℕ → List ℕ → List ℕ) (n : ℕ) (s : List ℕ) {u r : List ℕ} → u ≡ turns step n s → r ≡ step n u → r ≡ turns step (n + 1) s
unfolding turns
turns_more step n s before here = here ∙ rw (before, add-one)

-- turns after others, with the steps that follow theirs
pub turns-after : (step : ℕ → List ℕ → List ℕ) (m n : ℕ) (s u : List ℕ) → u ≡ turns step m s → turns (λ t. step (m + t)) n u ≡ turns step (m + n) s
unfolding turns
turns-after step m zero s u before = before ∙ ap (λ k. turns step k s) (sym (add-zero m))
turns-after step m (suc n) s u before = ap (step (m + n)) (turns-after step m n s u before) ∙ ap (λ k. turns step k s) (sym (add-suc m n))

-- steps that agree
pub turns_same : (f g : ℕ → List ℕ → List ℕ) (n : ℕ) (s : List ℕ) → ((t : ℕ) (u : List ℕ) → t < n → f t u ≡ g t u) → turns f n s ≡ turns g n s
unfolding turns
turns_same f g zero s same = refl
turns_same f g (suc n) s same =
    same n (turns f n s) (omega arith) ∙ ap (g n) (turns_same f g n s (λ t u below. same t u (omega arith)))
