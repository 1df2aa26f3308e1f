use Rattle.std.proofs.Common.{◌≡◌, ◌-◌, ◌%◌, ◌≤◌, true, false, ◌++◌, length, take, drop, Some, Ok, sym, ap, ◌∙◌, arith, rules}
use Rattle.std.specs.Option.{ok_or}
use Rattle.octets.specs.Octets.{zeros}
use Rattle.octets.proofs.Octets.{over-fits}
use Rattle.suite.specs.Fits.{Lengths, Openable}
use Rattle.suite.specs.Meaning.{given, counted, output_after}
use Rattle.suite.specs.declared.fault.Fault.TheVariants.{Mismatch}
use Rattle.pairing.specs.Pairing.{pair_serves}
use Rattle.pairing.proofs.PairingSteps.{turned_there, compared}
use Rattle.pairing.proofs.pairing.PairingFitting.open_fitting.Goals as goal

pub returns-then-not-same_octets : goal.returns-then-not-same_octets
returns-then-not-same_octets g c =
    let cipher = g.C.Cipher.ciphers c.args.self.now.cipher in
    let integrity = g.I.Integrity.checks c.args.self.now.integrity in
    let y = c.args.sealed.now in
    let room : c.args.sizes.check ≤ length (zeros 32) = search rules in
    let none =
    λ (served : pair_serves cipher integrity c.args.triple ≡ Some c.args.sizes)
    (l : Lengths c.args.triple c.args.sizes (given c.args.inputs)).
    compared cipher integrity c.args.triple c.args.sizes (given c.args.inputs) served l
    (g.met.I.Integrity.check_value_has_its_size c.args.self.now.integrity) y _ _ c.check_value.new.out (zeros 32) false c.same_octets.result
    c.split_at.ensures.front c.split_at.ensures.back room c.check_value.ensures.check_value_then_old
    c.same_octets.ensures.whether_all_are_equal c.if-not-same_octets.true in
    record {
      text_counted = λ served fits. ap (λ o. counted (ok_or o Mismatch)) (sym (none served fits.lengths));
      text_or_zeros_then_old = λ served fits.
          c.zero_first.ensures.zeros_then_old
          ∙ ap (λ o. output_after (ok_or o Mismatch) (length y - c.args.sizes.check) c.args.out.now) (sym (none served fits.lengths));
    }

pub returns : goal.returns
returns g c =
    let cipher = g.C.Cipher.ciphers c.args.self.now.cipher in
    let integrity = g.I.Integrity.checks c.args.self.now.integrity in
    let y = c.args.sealed.now in
    let n = length y - c.args.sizes.check in
    let out = c.args.out.now in
    let room : c.args.sizes.check ≤ length (zeros 32) = search rules in
    let some =
    λ (served : pair_serves cipher integrity c.args.triple ≡ Some c.args.sizes)
    (l : Lengths c.args.triple c.args.sizes (given c.args.inputs)).
    compared cipher integrity c.args.triple c.args.sizes (given c.args.inputs) served l
    (g.met.I.Integrity.check_value_has_its_size c.args.self.now.integrity) y _ _ c.check_value.new.out (zeros 32) true c.same_octets.result
    c.split_at.ensures.front c.split_at.ensures.back room c.check_value.ensures.check_value_then_old
    c.same_octets.ensures.whether_all_are_equal c.if-not-same_octets.false in
    let long : length (take n y) ≡ n = search rules in
    let x = cipher.deciphered c.args.inputs.key.now c.args.inputs.vector.now (take n y) in
    let x-is =
    λ (served : pair_serves cipher integrity c.args.triple ≡ Some c.args.sizes)
    (f : Openable c.args.triple c.args.sizes (given c.args.inputs) (length y) (length out) (length c.args.work.now)).
    turned_there cipher integrity c.args.triple c.args.sizes (given c.args.inputs) served f.lengths cipher.deciphered (take n y)
    c.copy_from_slice.new.self c.decipher.new.text c.args.work.now (c.copy_from_slice.ensures.after ∙ c.split_at.ensures.front)
    (ap (λ m. m % c.args.sizes.unit) long ∙ f.units) f.work_bytes c.decipher.ensures.deciphered in
    let new-long : length c.decipher.new.text ≡ n = search rules in
    record {
      text_counted = λ served f.
          ap Ok (sym (ap length (sym (x-is served f)) ∙ new-long)) ∙ ap (λ o. counted (ok_or o Mismatch)) (sym (some served f.lengths));
      text_or_zeros_then_old = λ served f.
          let x-long : length x ≡ n = ap length (sym (x-is served f)) ∙ new-long in
          ap (λ w. w ++ drop n out) (x-is served f)
          ∙ (ap (λ m. x ++ drop m out) (sym x-long)
          ∙ (sym (over-fits x out (omega arith)) ∙ ap (λ o. output_after (ok_or o Mismatch) n out) (sym (some served f.lengths))));
    }
