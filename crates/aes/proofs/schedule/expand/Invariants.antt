-- The words before this one stand behind the key.
use Rattle.std.proofs.Common.{◌≡◌, ◌-◌, ◌*◌, take}
use Rattle.octets.specs.Octets.{over}
use Rattle.aes.specs.Schedule.{grown}
use Rattle.aes.proofs.schedule.expand.Given as goal

abbrev pub invariant-loop-word : goal.invariant-loop-word
invariant-loop-word l = l.work ≡ over (grown l.key_words (l.word - l.key_words) (take (4 * l.key_words) l.initial.work)) l.initial.work
