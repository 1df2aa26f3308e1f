-- What holds of the suite and the protection that a served one holds is true of those it was made of. Assumes nothing.
use Rattle.std.proofs.Common.{◌≡◌, subst}

pub as_asked : {X Y : Type 0} (P : X → Y → Type 0) (x x' : X) (y y' : Y) → (x ≡ x') × (y ≡ y') → P x y → P x' y'
as_asked P x x' y y' same holds = subst (P x') same.1 (subst (λ w. P w y) same.0 holds)
