-- The parts of a descriptor before the protected one. Assumes nothing.
use Rattle.std.proofs.Common.{◌≡◌, ℕ, ◌+◌, ◌-◌, List, [], ◌∷◌, ◌++◌, length, refl, arith}
use Rattle.std.proofs.lemmas.List.{length-append}
use Rattle.octets.specs.Numbers.{big_endian}
use Rattle.octets.proofs.BigEndian.{length-big_endian}
use Rattle.layout.specs.Layout.{lead, head_of}
use Rattle.layout.specs.declared.Form.{Form}
use Rattle.layout.specs.declared.Form.TheVariants.{Long, Short}
use Rattle.descriptor.specs.Making.{lead_of, front}
use Rattle.descriptor.specs.declared.making.Label.{Label}

pub length-lead_of : (form : Form) (total : ℕ) → length (lead_of form total) ≡ lead form
length-lead_of Long total = omega (arith, length-append (big_endian 2 (total - 2)) (0 ∷ 0 ∷ []), length-big_endian 2 (total - 2))
length-lead_of Short total = refl

pub length-head_of : (sai sqn : ℕ) → length (head_of sai sqn) ≡ 12
length-head_of sai sqn = omega (arith, length-append (big_endian 4 sai) (big_endian 8 sqn), length-big_endian 4 sai, length-big_endian 8 sqn)

pub length_front : (l : Label) (total : ℕ) (vector : List ℕ) → length (front l total vector) ≡ lead l.form + 12 + length vector
length_front l total vector =
    let a = lead_of l.form total in
    let b = big_endian 4 l.sai in
    let c = big_endian 8 l.sqn in
    omega (arith, length-append ((a ++ b) ++ c) vector, length-append (a ++ b) c, length-append a b, length-lead_of l.form total, length-big_endian 4 l.sai, length-big_endian 8 l.sqn)
