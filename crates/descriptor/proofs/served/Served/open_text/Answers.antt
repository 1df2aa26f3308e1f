use Rattle.std.proofs.Common.{◌≡◌, ◌-◌, length, take, sym, ap, ◌∙◌, arith}
use Rattle.octets.specs.Octets.{over}
use Rattle.octets.proofs.Octets.{length_over, take-over-front}
use Rattle.suite.specs.Meaning.{check_size, counted}
use Rattle.suite.specs.Meaning as suite
use Rattle.descriptor.specs.Opening.{answer, concluded, data_after, unpadding, work_after}
use Rattle.descriptor.specs.Text.{data_of, given_to}
use Rattle.descriptor.proofs.OpeningSteps.{Bytes, given-text, written_again, work_wiped}
use Rattle.descriptor.proofs.served.Served.open_text.Goals as goal

pub unpad-requires : goal.unpad-requires
unpad-requires g c =
    let m = g.S.Suite.meaning c.args.self.now.suite.now in
    let y = c.args.sealed.now in
    let buffer = c.args.data.now in
    let o = suite.opening m c.args.self.now.under.triple (given_to c.args.self.now.under c.args.head.now c.args.vector.now) y buffer c.args.work.now in
    let bytes : Bytes (given_to c.args.self.now.under c.args.head.now c.args.vector.now) c.args.sealed.now = record {
      key = c.args.self.now.key_bytes;
      salt = c.args.self.now.salt_bytes;
      integrity = c.args.self.now.integrity_bytes;
      head = c.bytes_are_octets.ensures.every_value_is_a_byte;
      vector = c.bytes_are_octets-2.ensures.every_value_is_a_byte;
      sealed = c.bytes_are_octets-3.ensures.every_value_is_a_byte;
    } in
    let came = given-text m c.args.self.now.under.triple c.args.self.now.sizes (given_to c.args.self.now.under c.args.head.now c.args.vector.now) y buffer c.args.work.now c.args.self.now.told
    (g.met.S.Suite.what_opens_was_sealed c.args.self.now.suite.now) (g.met.S.Suite.sealing_adds_the_check_value c.args.self.now.suite.now) bytes
    c.in_ok-text.text (sym (rw c.inputs-inputs.ensures.keys_head_and_vector at c.open.ensures.text_counted) ∙ c.in_ok-text.was) in
    let stands : c.open.new.out ≡ over came.text buffer =
    (rw c.inputs-inputs.ensures.keys_head_and_vector at c.open.ensures.text_or_zeros_then_old)
    ∙ ap (λ r. suite.output_after r (length y - check_size (m.serves c.args.self.now.under.triple)) buffer) came.is in
    let long : length c.open.new.out ≡ length buffer = ap length stands ∙ length_over came.text buffer in
    let n = came.counted_so in
    let whole = came.whole in
    let room = came.fits.room in
    record { text_stands_there = omega arith }

pub returns : goal.returns
returns g c =
    let m = g.S.Suite.meaning c.args.self.now.suite.now in
    let z = c.args.self.now.sizes in
    let y = c.args.sealed.now in
    let e = length y - z.check in
    let n = c.in_ok-text.text in
    let buffer = c.args.data.now in
    let work = c.args.work.now in
    let o = suite.opening m c.args.self.now.under.triple (given_to c.args.self.now.under c.args.head.now c.args.vector.now) y buffer work in
    let bytes : Bytes (given_to c.args.self.now.under c.args.head.now c.args.vector.now) c.args.sealed.now = record {
      key = c.args.self.now.key_bytes;
      salt = c.args.self.now.salt_bytes;
      integrity = c.args.self.now.integrity_bytes;
      head = c.bytes_are_octets.ensures.every_value_is_a_byte;
      vector = c.bytes_are_octets-2.ensures.every_value_is_a_byte;
      sealed = c.bytes_are_octets-3.ensures.every_value_is_a_byte;
    } in
    let came = given-text m c.args.self.now.under.triple z (given_to c.args.self.now.under c.args.head.now c.args.vector.now) y buffer work c.args.self.now.told
    (g.met.S.Suite.what_opens_was_sealed c.args.self.now.suite.now) (g.met.S.Suite.sealing_adds_the_check_value c.args.self.now.suite.now) bytes
    n (sym (rw c.inputs-inputs.ensures.keys_head_and_vector at c.open.ensures.text_counted) ∙ c.in_ok-text.was) in
    let text = came.text in
    let stands : c.open.new.out ≡ over text buffer =
    (rw c.inputs-inputs.ensures.keys_head_and_vector at c.open.ensures.text_or_zeros_then_old)
    ∙ ap (λ r. suite.output_after r (length y - check_size (m.serves c.args.self.now.under.triple)) buffer) came.is in
    let long = came.counted_so in
    let whole = came.whole in
    let room = came.fits.room in
    let n-e : n ≡ e = omega arith in
    let front : take n c.open.new.out ≡ text =
    ap (λ k. take k c.open.new.out) (sym long) ∙ (ap (take (length text)) stands ∙ take-over-front text buffer (omega arith)) in
    let verdict : unpadding (data_of z (take n c.open.new.out)) n ≡ concluded z e o =
    ap (λ w. unpadding (data_of z w) n) front ∙ (ap (unpadding (data_of z text)) n-e ∙ ap (concluded z e) (sym came.is)) in
    record {
      data_length_answered = c.unpad.ensures.data_length_answered ∙ ap answer verdict;
      data_then_zeros_then_old =
          c.unpad.ensures.data_then_zeros_then_old
          ∙ (ap (λ v. data_after v c.open.new.out) (verdict ∙ ap (concluded z e) came.is)
          ∙ (ap (data_after (unpadding (data_of z text) e)) stands
          ∙ (written_again (data_of z text) e text buffer (omega arith) ∙ ap (λ r. data_after (concluded z e r) buffer) (sym came.is))));
      work_bytes_zero =
          (rw c.inputs-inputs.ensures.keys_head_and_vector at c.open.ensures.work_bytes_zero)
          ∙ (ap (λ r. suite.work_after r work) came.is
          ∙ (sym (work_wiped (data_of z text) e work) ∙ ap (λ r. work_after (concluded z e r) work) (sym came.is)));
    }
