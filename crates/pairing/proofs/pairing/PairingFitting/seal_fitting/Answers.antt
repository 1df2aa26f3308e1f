use Rattle.std.proofs.Common.{◌≡◌, ◌%◌, length, take, ap, ◌∙◌, rules}
use Rattle.suite.specs.Meaning.{given}
use Rattle.pairing.proofs.PairingSteps.{turned_there, sealed_there}
use Rattle.pairing.proofs.pairing.PairingFitting.seal_fitting.Goals as goal

pub returns-clause-sealed_bytes_then_old : goal.returns-clause-sealed_bytes_then_old
returns-clause-sealed_bytes_then_old g c served fits =
    let cipher = g.C.Cipher.ciphers c.args.self.now.cipher in
    let integrity = g.I.Integrity.checks c.args.self.now.integrity in
    let n = c.args.text in
    let x = take n c.args.out.now in
    let long : length x ≡ n = search rules in
    let enciphered =
    turned_there cipher integrity c.args.triple c.args.sizes (given c.args.inputs) served fits.lengths cipher.enciphered x
    _ c.encipher.new.text c.args.work.now c.split_at_mut-enciphered.ensures.front (ap (λ m. m % c.args.sizes.unit) long ∙ fits.units) fits.work_bytes
    c.encipher.ensures.enciphered in
    sealed_there cipher integrity c.args.triple c.args.sizes (given c.args.inputs) served fits.lengths
    (g.met.I.Integrity.check_value_has_its_size c.args.self.now.integrity) n c.args.out.now _ c.encipher.new.text c.check_value.new.out
    c.split_at_mut-enciphered.ensures.back (search rules) fits.room enciphered c.check_value.ensures.check_value_then_old
