use Rattle.std.proofs.Common.{◌≡◌, ◌+◌, ◌-◌, ◌≤◌, ◌++◌, length, take, Some, sym, ap, ◌∙◌, arith}
use native.Mathlib.Nat.{sub-zero}
use Rattle.std.proofs.lemmas.List.{length-take-le, take-take}
use Rattle.octets.specs.Octets.{over, zeros}
use Rattle.padding.specs.Padding.{data_length}
use Rattle.padding.proofs.Laws.{data_length-within}
use Rattle.descriptor.specs.Opening.{data_after, unpadding}
use Rattle.descriptor.proofs.OpeningSteps.{text-padded, front_and_zeros}
use Rattle.descriptor.proofs.served.Served.unpad.Goals as goal

pub returns-in-Some-clause-data_then_zeros_then_old : goal.returns-in-Some-clause-data_then_zeros_then_old
returns-in-Some-clause-data_then_zeros_then_old g c =
    let t = c.args.text in
    let n = c.in-Some.n in
    let buffer = c.args.data.now in
    let at : take (t - 0) buffer ≡ take t buffer = ap (λ k. take k buffer) (sub-zero t) in
    let told : data_length (take t buffer) ≡ Some n = ap data_length (sym at) ∙ (sym c.data_length.ensures.before_the_trailer ∙ c.in-Some.is) in
    let long = length-take-le t buffer c.requires.text_stands_there in
    let within : n + 2 ≤ length (take t buffer) = data_length-within (take t buffer) n told in
    let front : take n (take t buffer) ≡ take n buffer = take-take n t buffer (omega arith) in
    let front_long : length (take n (take t buffer)) ≡ n = length-take-le n (take t buffer) (omega arith) in
    let is = text-padded c.args.self.now.sizes (take t buffer) (Some n) c.if-not-self.false (sym told) in
    front_and_zeros n t c.zero_first.new.out buffer (omega arith) c.requires.text_stands_there c.zero_first.ensures.zeros_then_old
    ∙ (ap (λ k. over (take n buffer ++ zeros (t - k)) buffer) (sym front_long)
    ∙ (ap (λ w. over (w ++ zeros (t - length (take n (take t buffer)))) buffer) (sym front)
    ∙ ap (λ o. data_after (unpadding o t) buffer) (sym is)))
