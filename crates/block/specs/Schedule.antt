-- The schedule of a key, written into a work area.
--   room_for o n     the length of a schedule, where keys of that length are taken and n bytes have room for it
--   written o w ys   the work area ys once the schedule w is written over its start; unchanged where there is none
use Rattle.std.specs.Prelude.{ℕ, cond, List, Some, None, Option, nat_le}
use Rattle.octets.specs.Octets.{over}

abbrev pub room_for : Option ℕ → ℕ → Option ℕ
room_for None n = None
room_for (Some m) n = cond (nat_le m n) (Some m) None

abbrev pub written : Option ℕ → List ℕ → List ℕ → List ℕ
written None w ys = ys
written (Some m) w ys = over w ys
