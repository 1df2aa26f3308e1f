use Rattle.std.proofs.Common.{◌≤◌, length, take, IfOk, sym, ◌∙◌, rules}
use Rattle.descriptor.specs.Laws.{SealingOf}
use Rattle.descriptor.proofs.Asked.{as_asked}
use Rattle.descriptor.proofs.OpeningLaw.{OctetsOf, frame-sealed}
use Rattle.descriptor.proofs.opening.open_frame.Goals as goal

pub returns-clause-what_opens_was_sealed : goal.returns-clause-what_opens_was_sealed
returns-clause-what_opens_was_sealed g c =
    let a = c.args in
    let s = c.in_ok-served.served in
    let suite = s.suite.now in
    let within : a.frame.end ≤ length a.list.now = search rules in
    let bytes : OctetsOf s.under a.list.now = record {
      key = s.key_bytes;
      salt = s.salt_bytes;
      integrity = s.integrity_bytes;
      listed = c.bytes_are_octets.ensures.every_value_is_a_byte;
    } in
    as_asked (λ q p. IfOk c.open_parts.result (λ n. SealingOf (g.S.Suite.meaning q) p a.list.now a.frame (take n c.open_parts.new.data))) _ _ _ _
    c.in_ok-served.ensures.asked
    (frame-sealed (g.S.Suite.meaning suite) s.under a.list.now a.data.now a.work.now s.sizes a.frame s.told
    (g.met.S.Suite.what_opens_was_sealed suite) (g.met.S.Suite.opening_undoes_sealing suite) (g.met.S.Suite.sealing_adds_the_check_value suite)
    bytes c.in_ok-parts.parts c.open_parts.result c.open_parts.new.data (sym c.parts.ensures.as_parted ∙ c.in_ok-parts.was) (search rules) within
    c.open_parts.ensures.data_length_answered c.open_parts.ensures.data_then_zeros_then_old)
