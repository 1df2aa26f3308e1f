use Rattle.std.proofs.Common.{◌≡◌, ◌/◌, length}
use Rattle.cbc.specs.Turning.{Turn, TurnsAs}
use Rattle.cbc.proofs.Turns.{Turning}
use Rattle.cbc.proofs.turning.turn_blocks.Given as goal

abbrev pub invariant-loop-i : goal.invariant-loop-i
invariant-loop-i g l = record {
  turn_callable : goal.F-IsAlwaysCallable g l.turn;
  one_block : length l.chain ≡ 16;
  turning : (out next : Turn) → TurnsAs g.F.Fn l.turn out next
      → Turning out next (length l.initial.text / 16) l.initial.chain l.initial.text l.i l.chain l.text;
}
