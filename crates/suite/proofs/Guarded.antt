-- What the own part of a suite takes and leaves behind the tests of lengths, with the guard over the work bytes. Assumes nothing.
use Rattle.std.proofs.Common.{◌≡◌, ℕ, ◌+◌, ◌≤◌, true, List, ◌++◌, length, drop, Some, sym, ap, ◌∙◌, arith}
use Rattle.std.proofs.lemmas.List.{length-append, drop_at}
use Rattle.octets.specs.Octets.{wiped, zeros}
use Rattle.octets.proofs.Octets.{wiped-fits}
use Rattle.suite.specs.Fits.{Sealable, Openable}
use Rattle.suite.specs.Meaning.{Given, Meaning, sealing, opening, sealing_fits, opening_fits, work_after}
use Rattle.suite.specs.declared.sizes.Sizes.{Sizes}
use Rattle.suite.specs.declared.triple.Triple.{Triple}
use Rattle.suite.proofs.Lengths.{sealable, openable}
use Rattle.suite.proofs.Outcomes.{sealing-served, opening-served, opening_work}

-- the work area after the guard over it ends, whatever the call has left in its first 240 bytes
pub guarded : (zs part work : List ℕ) → zs ≡ wiped 240 (part ++ drop 240 work) → length part ≡ 240 → 240 ≤ length work
    → zs ≡ wiped 240 work
guarded zs part work e long room =
    let n : length (part ++ drop 240 work) ≡ length part + length (drop 240 work) = length-append part (drop 240 work) in
    e
    ∙ (wiped-fits 240 (part ++ drop 240 work) (omega arith)
    ∙ (ap (λ w. zeros 240 ++ w) (drop_at part (drop 240 work) 240 long) ∙ sym (wiped-fits 240 work room)))

-- what fits with the whole work area fits with its first 240 bytes
module _ (t : Triple) (z : Sizes) (g : Given) (n out work k : ℕ) (whole : k ≡ 240) where
  pub sealable_within : sealing_fits t z g n out work ≡ true → Sealable t z g n out k
  sealable_within fits =
      let s = sealable t z g n out work fits in
      record { lengths = s.lengths; units = s.units; short = s.short; room = s.room; work_bytes = omega arith }

  pub openable_within : opening_fits t z g n out work ≡ true → Openable t z g n out k
  openable_within fits =
      let o = openable t z g n out work fits in
      record { lengths = o.lengths; check = o.check; units = o.units; short = o.short; room = o.room; work_bytes = omega arith }

module _ (m : Meaning) (t : Triple) (z : Sizes) (g : Given) (out zs part work : List ℕ) (served : m.serves t ≡ Some z)
    (guard : zs ≡ wiped 240 (part ++ drop 240 work)) (long : length part ≡ 240) where
  pub sealing_guarded : (n : ℕ) → sealing_fits t z g n (length out) (length work) ≡ true → zs ≡ work_after (sealing m t g n out work) work
  sealing_guarded n fits =
      guarded zs part work guard long (sealable t z g n (length out) (length work) fits).work_bytes
      ∙ ap (λ r. work_after r work) (sym (sealing-served m t z g served n out work fits))

  pub opening_guarded : (y : List ℕ) → opening_fits t z g (length y) (length out) (length work) ≡ true
      → zs ≡ work_after (opening m t g y out work) work
  opening_guarded y fits =
      guarded zs part work guard long (openable t z g (length y) (length out) (length work) fits).work_bytes
      ∙ (sym (opening_work (m.opened t g y) work) ∙ ap (λ r. work_after r work) (sym (opening-served m t z g served y out work fits)))
