-- A schedule stands at the start of the work area that it is written into, and a text is turned under it as under the schedule itself.
-- Assumes nothing.
use Rattle.std.specs.Prelude.{◌≡◌, ℕ, ◌-◌, ◌%◌, ◌≤◌, cond, List, length, take, Some, Option}
use Rattle.std.proofs.Common.{sym, ap, ◌∙◌, arith}
use Rattle.std.proofs.Math.Nat.{sub-zero}
use Rattle.std.proofs.lemmas.Bool.{le-leb, eq-eqb, cond-true}
use Rattle.block.specs.Schedule.{room_for, written}
use Rattle.cbc.specs.Cbc.{whole_blocks}
use Rattle.octets.specs.Octets.{over}
use Rattle.octets.proofs.Octets.{over_all, take-over-front}

-- a schedule that is written into the work area
pub schedule_first : (o : Option ℕ) (n : ℕ) (w work : List ℕ) → o ≡ Some n → n ≤ 240 → length w ≡ n → 240 ≤ length work
    → take n (written (room_for o (length work)) w work) ≡ w
schedule_first o n w work e short long room =
    let fits : room_for o (length work) ≡ Some n = ap (λ p. room_for p (length work)) e ∙ cond-true _ _ _ (le-leb n (length work) (omega arith)) in
    ap (λ p. take n (written p w work)) fits
    ∙ (ap (λ m. take m (over w work)) (sym long) ∙ take-over-front w work (omega arith))

-- F is what a schedule, a chain and a text come to; the chain is made over some block of the vector's length
pub turned-fitting : (F : List ℕ → List ℕ → List ℕ → List ℕ) (n : ℕ) (work w vector block chain text out : List ℕ)
    → take n work ≡ w → length vector ≡ length block → chain ≡ over vector block → length text % 16 ≡ 0
    → out ≡ cond (whole_blocks text) (F (take (n - 0) work) chain text) text → out ≡ F w vector text
turned-fitting F n work w vector block chain text out schedule long made whole is =
    is
    ∙ (cond-true (whole_blocks text) _ _ (eq-eqb _ _ whole)
    ∙ (ap (λ s. F s chain text) (ap (λ m. take m work) (sub-zero n) ∙ schedule)
    ∙ ap (λ c. F w c text) (made ∙ over_all vector block long)))
