use Rattle.std.proofs.Common.{◌≡◌, ℕ, List, length, take, Some, None, Option, rules, arith}
use Rattle.std.proofs.lemmas.Bool.Decides.{nat_tests}
use Rattle.octets.proofs.Octets.{take-over-front}
use Rattle.block.specs.Schedule.{room_for, written}
use Rattle.combined.proofs.keyed.Keyed.new.Goals as goal

-- the schedule of a key, where it is told, stands at the start of the work area
schedule_there : (o : Option ℕ) (w work after : List ℕ) (m : ℕ) → ((n : ℕ) → o ≡ Some n → length w ≡ n)
    → room_for o (length work) ≡ Some m → after ≡ written (room_for o (length work)) w work → take m after ≡ w
schedule_there None w work after m long told is = cc
schedule_there (Some n) w work after m long told is = grind (arith, nat_tests, take-over-front w work)

pub returns-clause-schedule_of_the_key : goal.returns-clause-schedule_of_the_key
returns-clause-schedule_of_the_key g c =
    schedule_there (g.B.BlockCipher.scheduled (length c.args.inputs.key.now)) (g.B.BlockCipher.expanded c.args.inputs.key.now) c.args.work.now
    c.expand_key.new.work c.in_ok-schedule.schedule (g.met.B.BlockCipher.expanding_gives_its_length c.args.inputs.key.now) (search rules)
    c.expand_key.ensures.schedule_then_old
