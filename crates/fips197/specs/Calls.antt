-- What a call that is passed makes of bytes.
--   Replaces g f h  that f gives h x for each byte x
--   Mixes g f h     that f gives h a b c d for all bytes a, b, c and d
use Rattle.std.specs.Prelude.{◌≡◌, ℕ, ◌<◌}
use Rattle.std.specs.Fn.{Shared}

pub record Replaces {F : Type 0} (g : Shared F (ℕ × Unit {0}) ℕ) (f : F) (h : ℕ → ℕ) : Type 0 where
  pub gives : (x r : ℕ) → x < 256 → g.post f (x, tt) r → r ≡ h x

pub record Mixes {F : Type 0} (g : Shared F (ℕ × (ℕ × (ℕ × (ℕ × Unit {0})))) ℕ) (f : F) (h : ℕ → ℕ → ℕ → ℕ → ℕ) : Type 0 where
  pub gives : (a b c d r : ℕ) → a < 256 → b < 256 → c < 256 → d < 256 → g.post f (a, (b, (c, (d, tt)))) r → r ≡ h a b c d
