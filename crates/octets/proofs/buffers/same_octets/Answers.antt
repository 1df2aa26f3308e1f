use Rattle.std.proofs.Common.{length, rules}
use Rattle.std.proofs.lemmas.List.{length_push}
use Rattle.std.proofs.lemmas.Slice.Zip.{zip_turn}
use Rattle.octets.proofs.Octets.{same-lengths, same_more}
use Rattle.octets.proofs.buffers.same_octets.Goals as goal

pub returns-then-a-b : goal.returns-then-a-b
returns-then-a-b c = search (rules, same-lengths)

pub loop-x-preserved : goal.loop-x-preserved
loop-x-preserved c =
    let turn = zip_turn c.args.a.now c.args.b.now _ c.into_iter-x-iterator.result c.loop-x.x-iterator c.next.new.self _ (search rules) (search rules) c.loop-x.yielded_by _ c.in-Some.is c.next.ensures.steps in
    rw (length_push c.loop-x.yielded (c.in-Some.x, c.in-Some.y), turn.2 0, turn.3 0)
    (same_more c.args.a.now c.args.b.now (length c.loop-x.yielded) c.loop-x.difference (search rules) turn.0 c.loop-x.invariant)
