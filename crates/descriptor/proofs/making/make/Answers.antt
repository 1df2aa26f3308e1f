use Rattle.std.proofs.Common.{◌≡◌, ◌≤◌, length, take, IfOk, sym, ap, ◌∙◌, arith, rules}
use Rattle.descriptor.specs.Laws.{AllBytes, OpensTo}
use Rattle.descriptor.specs.Making.{answer, making, made_bytes, output_after}
use Rattle.descriptor.proofs.Admitted.{makeable, making_made}
use Rattle.descriptor.proofs.Asked.{as_asked}
use Rattle.descriptor.proofs.RoundTrip.{opens_to}
use Rattle.descriptor.proofs.SealingText.{made_long}
use Rattle.descriptor.proofs.making.make.Goals as goal

pub returns-clause-length_answered : goal.returns-clause-length_answered
returns-clause-length_answered g c =
    let a = c.args in
    let s = c.in_ok-served.served in
    let done =
    making_made (g.S.Suite.meaning s.suite.now) s.under a.label a.vector.now a.data.now a.out.now a.work.now s.sizes s.told
    (sym c.admit.ensures.first_that_fits ∙ c.in_ok-admit.was) in
    as_asked (λ q p. c.make_fitting.result ≡ answer (making (g.S.Suite.meaning q) p a.label a.vector.now a.data.now a.out.now a.work.now)) _ _ _ _
    c.in_ok-served.ensures.asked (c.make_fitting.ensures.length_answered ∙ ap answer (sym done))

pub returns-clause-descriptor_then_old : goal.returns-clause-descriptor_then_old
returns-clause-descriptor_then_old g c =
    let a = c.args in
    let s = c.in_ok-served.served in
    let out = a.out.now in
    let done =
    making_made (g.S.Suite.meaning s.suite.now) s.under a.label a.vector.now a.data.now out a.work.now s.sizes s.told
    (sym c.admit.ensures.first_that_fits ∙ c.in_ok-admit.was) in
    as_asked (λ q p. c.make_fitting.new.out ≡ output_after (making (g.S.Suite.meaning q) p a.label a.vector.now a.data.now out a.work.now) out) _ _ _ _
    c.in_ok-served.ensures.asked (c.make_fitting.ensures.descriptor_then_old ∙ ap (λ d. output_after d out) (sym done))

pub returns-clause-opens_to_its_data : goal.returns-clause-opens_to_its_data
returns-clause-opens_to_its_data g c =
    let a = c.args in
    let s = c.in_ok-served.served in
    let suite = s.suite.now in
    let m = g.S.Suite.meaning suite in
    let undoes = g.met.S.Suite.opening_undoes_sealing suite in
    let adds = g.met.S.Suite.sealing_adds_the_check_value suite in
    let vector = a.vector.now in
    let xs = a.data.now in
    let out = a.out.now in
    let work = a.work.now in
    let bytes : AllBytes s.under vector xs = record {
      key = s.key_bytes;
      salt = s.salt_bytes;
      integrity = s.integrity_bytes;
      vector_bytes = c.bytes_are_octets.ensures.every_value_is_a_byte;
      data_bytes = c.bytes_are_octets-2.ensures.every_value_is_a_byte;
    } in
    let fits = makeable s.under a.label.form s.sizes (length vector) (length xs) (length out) (length work)
    (sym c.admit.ensures.first_that_fits ∙ c.in_ok-admit.was) in
    let long : length (made_bytes m s.under a.label vector xs out work s.sizes) ≤ length out =
    omega (arith, fits.room, made_long m s.under a.label s.sizes vector xs (length out) (length work) adds s.told s.bounded fits out work) in
    as_asked (λ q p. IfOk c.make_fitting.result (λ n. OpensTo (g.S.Suite.meaning q) p a.label xs (take n c.make_fitting.new.out))) _ _ _ _
    c.in_ok-served.ensures.asked
    (opens_to m s.under a.label s.sizes vector xs (length out) (length work) undoes adds s.told s.bounded fits bytes
    (search rules) (search rules) c.make_fitting.result out c.make_fitting.new.out c.make_fitting.ensures.length_answered
    c.make_fitting.ensures.descriptor_then_old long)
