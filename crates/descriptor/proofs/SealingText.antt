-- The suite seals the text of the data wherever a descriptor may be made. Assumes nothing.
use Rattle.std.proofs.Common.{◌≡◌, ℕ, ◌+◌, ◌^◌, ◌<◌, ◌≤◌, true, List, length, take, Some, Ok, ap, ◌∙◌, arith}
use Rattle.layout.specs.Layout.{head_of}
use Rattle.layout.specs.declared.Form.{Form}
use Rattle.layout.proofs.Framing.{length-descriptor}
use Rattle.suite.specs.Fits.{Lengths, Sealable}
use Rattle.suite.specs.Laws.{Bounded, SealingAddsTheCheckValue}
use Rattle.suite.specs.Meaning.{Meaning, sealing, text_fits}
use Rattle.suite.specs.declared.Sizes.{Sizes}
use Rattle.suite.proofs.Lengths.{lengths-fit, text-fits, sealing-fits}
use Rattle.suite.proofs.Outcomes.{sealing-served}
use Rattle.descriptor.specs.Making.{Makeable, made_length, made_bytes}
use Rattle.descriptor.specs.declared.making.Label.{Label}
use Rattle.descriptor.specs.Text.{given_to, text_of, text_length}
use Rattle.descriptor.specs.declared.protection.Protection.{Protection}
use Rattle.descriptor.proofs.Fronts.{length-head_of}
use Rattle.descriptor.proofs.Texts.{length-text, text-units}

module _ (m : Meaning) (p : Protection) (form : Form) (z : Sizes) (sai sqn : ℕ) (vector xs : List ℕ) (out work : ℕ)
    (served : m.serves p.triple ≡ Some z) (bounded : Bounded p.triple z)
    (fits : Makeable p form z (length vector) (length xs) out work) where
  pub given-fits : Lengths p.triple z (given_to p (head_of sai sqn) vector)
  given-fits = record {
    key = fits.key;
    salt = fits.salt;
    integrity = fits.integrity;
    head = length-head_of sai sqn;
    vector = fits.vector;
  }

  pub text-short : text_length z (length xs) < 2 ^ 32
  text-short = omega (arith, fits.short)

  pub text_is_sealed : (part area : List ℕ) → length part ≡ text_length z (length xs) + z.check → 240 ≤ length area
      → take (text_length z (length xs)) part ≡ text_of z xs
      → sealing m p.triple (given_to p (head_of sai sqn) vector) (text_length z (length xs)) part area
      ≡ Ok (m.sealed p.triple (given_to p (head_of sai sqn) vector) (text_of z xs))
  text_is_sealed part area long room there =
      let g = given_to p (head_of sai sqn) vector in
      let n = text_length z (length xs) in
      let s : Sealable p.triple z g n (length part) (length area) = record {
        lengths = given-fits;
        units = text-units z xs p.triple bounded;
        short = text-short;
        room = omega arith;
        work_bytes = room;
      } in
      sealing-served m p.triple z g served n part area (sealing-fits p.triple z g n (length part) (length area) s)
      ∙ ap (λ w. Ok (m.sealed p.triple g w)) there

  pub length-sealed : SealingAddsTheCheckValue m
      → length (m.sealed p.triple (given_to p (head_of sai sqn) vector) (text_of z xs)) ≡ text_length z (length xs) + z.check
  length-sealed adds =
      let n = length-text z xs in
      let fit : text_fits z (length (text_of z xs)) ≡ true =
      ap (text_fits z) n ∙ text-fits z (text_length z (length xs)) (text-units z xs p.triple bounded) text-short in
      adds p.triple z (given_to p (head_of sai sqn) vector) (text_of z xs) served
      (lengths-fit p.triple z (given_to p (head_of sai sqn) vector) given-fits) fit
      ∙ ap (λ k. k + z.check) n

pub made_long : (m : Meaning) (p : Protection) (l : Label) (z : Sizes) (vector xs : List ℕ) (out work : ℕ) → SealingAddsTheCheckValue m
    → m.serves p.triple ≡ Some z → Bounded p.triple z → Makeable p l.form z (length vector) (length xs) out work
    → (buffer area : List ℕ) → length (made_bytes m p l vector xs buffer area z) ≡ made_length l.form z (length xs)
made_long m p l z vector xs out work adds served bounded fits buffer area =
    let s = m.sealed p.triple (given_to p (head_of l.sai l.sqn) vector) (text_of z xs) in
    let n = length-sealed m p l.form z l.sai l.sqn vector xs out work served bounded fits adds in
    omega (arith, length-descriptor l.form l.sai l.sqn vector s, n, fits.vector)
