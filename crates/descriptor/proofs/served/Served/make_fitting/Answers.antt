use Rattle.std.proofs.Common.{◌≡◌, ℕ, ◌+◌, ◌-◌, take, drop, Ok, ap, ◌∙◌, arith}
use borrow.Rule.Slice.PartMut.{put_mid}
use Rattle.suite.specs.Meaning.{counted, output_after, work_after}
use Rattle.descriptor.proofs.Laid.{laid}
use Rattle.descriptor.proofs.served.Served.make_fitting.Goals as goal

pub returns-in_err-seal : goal.returns-in_err-seal
returns-in_err-seal g c =
    let laid =
    laid (g.S.Suite.meaning c.args.self.now.suite.now) c.args.self.now.under c.args.label c.args.self.now.sizes c.args.vector.now c.args.data.now
    c.args.out.now c.args.work.now (g.met.S.Suite.sealing_adds_the_check_value c.args.self.now.suite.now) c.args.self.now.told c.args.self.now.bounded
    c.requires.fits c.lead.result c.text_length-text.result c.head_of-head.result c.write_front.new.out c.write_text.new.text
    c.lead.ensures c.text_length-text.ensures.as_padded c.head_of-head.ensures.sai_then_sqn c.write_front.ensures.front_then_old
    c.write_text.ensures.text_of_the_data in
    let fine = (rw c.inputs-inputs.ensures.keys_head_and_vector at c.seal.ensures.sealed_bytes_counted) ∙ ap counted laid.sealed in
    let failed = c.in_err-seal.was in
    let no' : ◌≡◌ {A = ℕ} 0 1 = cc in
    absurd (omega arith)

pub returns : goal.returns
returns g c =
    let laid =
    laid (g.S.Suite.meaning c.args.self.now.suite.now) c.args.self.now.under c.args.label c.args.self.now.sizes c.args.vector.now c.args.data.now
    c.args.out.now c.args.work.now (g.met.S.Suite.sealing_adds_the_check_value c.args.self.now.suite.now) c.args.self.now.told c.args.self.now.bounded
    c.requires.fits c.lead.result c.text_length-text.result c.head_of-head.result c.write_front.new.out c.write_text.new.text
    c.lead.ensures c.text_length-text.ensures.as_padded c.head_of-head.ensures.sai_then_sqn c.write_front.ensures.front_then_old
    c.write_text.ensures.text_of_the_data in
    let e = c.text_length-text.result in
    let start = c.lead.result + 12 + c.args.self.now.sizes.vector in
    let end = start + e + c.args.self.now.sizes.check in
    let out₂ = put_mid start (start + e - start) c.write_front.new.out c.write_text.new.text in
    let part = take (end - start) (drop start out₂) in
    let sealed = (rw c.inputs-inputs.ensures.keys_head_and_vector at c.seal.ensures.sealed_bytes_then_old) ∙ (ap (λ r. output_after r 0 part) laid.sealed ∙ laid.in_place) in
    record {
      length_answered = ap Ok laid.length_answered;
      descriptor_then_old = ap (put_mid start (end - start) out₂) sealed ∙ laid.descriptor_then_old;
      work_bytes_zero = (rw c.inputs-inputs.ensures.keys_head_and_vector at c.seal.ensures.work_bytes_zero) ∙ ap (λ r. work_after r c.args.work.now) laid.sealed;
    }
