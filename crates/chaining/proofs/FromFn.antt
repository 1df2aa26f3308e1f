-- An array that `from_fn` makes of a closure that changes nothing: at each place what the closure answers there.
use Rattle.std.proofs.Common.{◌≡◌, ℕ, suc, zero, ◌+◌, ◌<◌, ◌≤◌, List, map, get_or, ap, sym, ◌∙◌, subst, ⊎_elim, arith}
use denote.Param.Members.{Mut}
use Rattle.std.specs.Fn.{Called}
use Rattle.std.specs.Array.{IsFromFnResult, IsFromFnResultFrom}
use Rattle.std.specs.List.{range_with_len}
use Rattle.std.proofs.lemmas.Bool.{cases_lt}
use Rattle.std.proofs.lemmas.List.FromFn.{fill_by_all}

-- each call answers h and leaves the closure as it was
abbrev pub Answers : {F : Type 0} (g : Mut F (ℕ × Unit {0}) ℕ) (h : ℕ → ℕ) (f : F) → Type 0
Answers {F} g h f = (i y : ℕ) (q : F) → Called g f (i, tt) y q → (y ≡ h i) × (q ≡ f)

from_place : {F : Type 0} (g : Mut F (ℕ × Unit {0}) ℕ) (h : ℕ → ℕ) (f : F) → Answers g h f → (ys : List ℕ) (i n : ℕ) → IsFromFnResultFrom g f ys i n → (k : ℕ) → i ≤ k → k < i + n → get_or ys k 0 ≡ h k
from_place g h f same ys i zero made k low high = absurd (omega arith)
from_place g h f same ys i (suc n) made k low high =
    let this = same i made.1 made.0 made.3 in
    ⊎_elim
    (λ above. from_place g h f same ys (i + 1) n (subst (λ q. IsFromFnResultFrom g q ys (i + 1) n) this.1 made.4) k (omega arith) (omega arith))
    (λ here. let at : k ≡ i = omega arith in ap (λ j. get_or ys j 0) at ∙ made.2.1 0 ∙ this.0 ∙ ap h (sym at))
    (cases_lt i k)

pub from_fn_is : {F : Type 0} (g : Mut F (ℕ × Unit {0}) ℕ) (h : ℕ → ℕ) (f : F) → Answers g h f → (ys : List ℕ) (n : ℕ) → IsFromFnResult g f ys n → ys ≡ map h (range_with_len 0 n)
from_fn_is g h f same ys n made =
    fill_by_all h ys n 0 made.long (λ k below. from_place g h f same ys 0 n made.each k (omega arith) (omega arith))
