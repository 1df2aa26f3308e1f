-- The round constant is there.
use Rattle.std.proofs.Common.{arith}
use Rattle.std.proofs.lemmas.Nat.{div_below, le-div}
use Rattle.aes.proofs.schedule.Place.change.Goals as goal

pub turn_word-requires : goal.turn_word-requires
turn_word-requires c =
    let place = c.args.self in
    let least = place.four_words in
    let below = div_below place.word place.key_words 11 (omega arith) place.constants_reach in
    record { from_one = le-div 1 place.word place.key_words (omega arith) (omega (arith, place.past_the_key)); up_to_ten = omega arith }
