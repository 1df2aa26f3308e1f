-- Sealing the text of a descriptor where it stands in the output. Assumes nothing.
use Rattle.std.proofs.Common.{◌≡◌, ℕ, ◌+◌, ◌-◌, ◌≤◌, List, length, take, drop, Some, Ok, sym, refl, ap, ◌∙◌, arith}
use borrow.Rule.Slice.PartMut.{put_mid}
use Rattle.octets.specs.Octets.{over}
use Rattle.octets.proofs.Octets.{over_all}
use Rattle.layout.specs.Layout.{descriptor, head_of, lead}
use Rattle.layout.proofs.Framing.{length-descriptor}
use Rattle.suite.specs.Laws.{Bounded, SealingAddsTheCheckValue}
use Rattle.suite.specs.Meaning.{Meaning, sealing}
use Rattle.suite.specs.declared.Sizes.{Sizes}
use Rattle.descriptor.specs.Making.{Makeable, front}
use Rattle.descriptor.specs.Text.{given_to, text_of, text_length}
use Rattle.descriptor.specs.declared.making.Label.{Label}
use Rattle.descriptor.specs.declared.protection.Protection.{Protection}
use Rattle.descriptor.proofs.Fronts.{length_front}
use Rattle.descriptor.proofs.Laying.{text_there, part_long, sealed_there, front_and_sealed}
use Rattle.descriptor.proofs.SealingText.{text_is_sealed, length-sealed}
use Rattle.descriptor.proofs.Texts.{length-text}

module _ (m : Meaning) (p : Protection) (l : Label) (z : Sizes) (vector xs out work : List ℕ)
    (adds : SealingAddsTheCheckValue m) (served : m.serves p.triple ≡ Some z) (bounded : Bounded p.triple z)
    (fits : Makeable p l.form z (length vector) (length xs) (length out) (length work)) where
  abbrev pub s : List ℕ
  s = m.sealed p.triple (given_to p (head_of l.sai l.sqn) vector) (text_of z xs)

  -- the text of e bytes stands behind the front of start bytes, in the output out₂; part is from there to the descriptor's end
  pub record Laid (start e : ℕ) (head out₂ : List ℕ) : Type 0 where
    pub sealed : sealing m p.triple (given_to p head vector) e (take (start + e + z.check - start) (drop start out₂)) work ≡ Ok s
    pub in_place : over s (take (start + e + z.check - start) (drop start out₂)) ≡ s
    pub length_answered : start + e + z.check ≡ length (descriptor l.form l.sai l.sqn vector s)
    pub descriptor_then_old : put_mid start (start + e + z.check - start) out₂ s ≡ over (descriptor l.form l.sai l.sqn vector s) out

  pub laid : (at e : ℕ) (head out₁ text : List ℕ) → at ≡ lead l.form → e ≡ text_length z (length xs) → head ≡ head_of l.sai l.sqn
      → out₁ ≡ over (front l (at + 12 + z.vector + e + z.check) vector) out → text ≡ text_of z xs
      → Laid (at + 12 + z.vector) e head (put_mid (at + 12 + z.vector) (at + 12 + z.vector + e - (at + 12 + z.vector)) out₁ text)
  laid at e head out₁ text at-is e-is head_is first text-is =
      let start = at + 12 + z.vector in
      let f = front l (start + e + z.check) vector in
      let out₂ = put_mid start (start + e - start) out₁ text in
      let part = take (start + e + z.check - start) (drop start out₂) in
      let text-long : length text ≡ e = ap length text-is ∙ (length-text z xs ∙ sym e-is) in
      let f-long : length f ≡ start = omega (arith, length_front l (start + e + z.check) vector, fits.vector) in
      let s-long : length s ≡ e + z.check =
      length-sealed m p l.form z l.sai l.sqn vector xs (length out) (length work) served bounded fits adds ∙ ap (λ k. k + z.check) (sym e-is) in
      let room : start + e + z.check ≤ length out = omega (arith, fits.room) in
      let long : length part ≡ e + z.check =
      part_long f text s out out₁ out₂ start e z.check (start + e - start) f-long text-long s-long room (omega arith) first refl
      (start + e + z.check - start) (omega arith) in
      let there : take e part ≡ text_of z xs =
      text_there f text s out out₁ out₂ start e z.check (start + e - start) f-long text-long s-long room (omega arith) first refl
      (start + e + z.check - start) (omega arith) ∙ text-is in
      let whole : start + e + z.check ≡ lead l.form + 12 + length vector + length s = omega (arith, fits.vector) in
      record {
        sealed =
            ap (λ h. sealing m p.triple (given_to p h vector) e part work) head_is
            ∙ (ap (λ n. sealing m p.triple (given_to p (head_of l.sai l.sqn) vector) n part work) e-is
            ∙ text_is_sealed m p l.form z l.sai l.sqn vector xs (length out) (length work) served bounded fits part work
            (long ∙ ap (λ k. k + z.check) e-is) fits.work_bytes (ap (λ n. take n part) (sym e-is) ∙ there));
        in_place = over_all s part (s-long ∙ sym long);
        length_answered = whole ∙ sym (length-descriptor l.form l.sai l.sqn vector s);
        descriptor_then_old =
            sealed_there f text s out out₁ out₂ start e z.check (start + e - start) f-long text-long s-long room (omega arith) first refl
            (start + e + z.check - start) (omega arith)
            ∙ ap (λ d. over d out) (front_and_sealed l (start + e + z.check) vector s whole);
      }
