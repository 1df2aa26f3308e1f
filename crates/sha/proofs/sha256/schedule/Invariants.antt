-- The words before the next eight are the schedule's.
use Rattle.std.proofs.Common.{◌≡◌, ◌%◌, ◌≤◌}
use Rattle.sha.proofs.Schedules.{Upto}
use Rattle.sha.proofs.sha256.schedule.Given as goal

abbrev pub invariant-loop-first : goal.invariant-loop-first
invariant-loop-first l = record {
  in_eights : l.first % 8 ≡ 0;
  within : l.first ≤ 64;
  so_far : Upto l.block l.w l.first;
}
