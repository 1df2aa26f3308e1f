-- The blocks of a text turned one after the other, whatever a turn makes of a block and of the chain.
--   Turn                       a function of the chain and a block
--   turned out next n chain x  the first n blocks of x turned: out gives what takes a block's place, next the chain for the next block
--   last_chain next n chain x  the chain after n blocks of x
--   TurnsAs g f out next       that each call of f leaves what out and next give, where the chain and the block have 16 bytes
use Rattle.std.specs.Prelude.{◌≡◌, ℕ, zero, suc, List, [], ◌++◌, length, take, drop}
use Rattle.std.specs.Borrow.{MutBor}
use Rattle.std.specs.Fn.{Shared}

abbrev pub Turn : Type 0
Turn = List ℕ → List ℕ → List ℕ

abbrev pub turned : Turn → Turn → ℕ → List ℕ → List ℕ → List ℕ
turned out next zero chain x = []
turned out next (suc n) chain x = out chain (take 16 x) ++ turned out next n (next chain (take 16 x)) (drop 16 x)

abbrev pub last_chain : Turn → ℕ → List ℕ → List ℕ → List ℕ
last_chain next zero chain x = chain
last_chain next (suc n) chain x = last_chain next n (next chain (take 16 x)) (drop 16 x)

abbrev Both : Type 0
Both = MutBor (List ℕ) × (MutBor (List ℕ) × Unit {0})

pub record TurnsAs {F : Type 0} (g : Shared F Both (Unit {0} × Both)) (f : F) (out next : Turn) : Type 0 where
  pub leaves : (c b c' b' : MutBor (List ℕ)) → length c.now ≡ 16 → length b.now ≡ 16 → g.post f (c, (b, tt)) (tt, (c', (b', tt)))
      → record { block : b'.now ≡ out c.now b.now; chain : c'.now ≡ next c.now b.now }
