-- A pairing keeps the laws of a suite, since its cipher and its integrity algorithm keep theirs. Assumes nothing.
use Rattle.std.specs.Prelude.{◌≡◌, ℕ, ◌-◌, ◌%◌, ◌<◌, Bool, true, false, cond, List, ◌++◌, length, take, drop, Some, None, Option, refl}
use Rattle.std.proofs.Common.{sym, ap, subst, ◌∙◌, arith}
use Rattle.std.proofs.ByRecursion.{All-append, All-take}
use Rattle.std.proofs.lemmas.List.{length-append, length-take-le, take_at, drop_at, take-append-drop}
use Rattle.octets.specs.Octets.{Octets, same}
use Rattle.octets.proofs.Octets.{same_refl, same_true}
use Rattle.suite.proofs.Lengths.{lengths, units}
use Rattle.suite.specs.Cipher.{CipherMeaning, FittingCipher, Whole, BoundedCipher, CipherSizesAreBounded, KeepsLength, GivesBytes, DecipheringUndoesEnciphering, EncipheringUndoesDeciphering}
use Rattle.suite.specs.Integrity.{IntegrityMeaning, BoundedIntegrity, IntegritySizesAreBounded, CheckValueHasItsSize}
use Rattle.suite.specs.Fits.{Lengths}
use Rattle.suite.specs.Laws.{Bounded, Served, Sealed, Text, SizesAreBounded, SealingAddsTheCheckValue, SealingGivesBytes, OpeningUndoesSealing, WhatOpensWasSealed}
use Rattle.suite.specs.Meaning.{Given, text_fits, check_size}
use Rattle.suite.specs.declared.CipherSizes.{CipherSizes}
use Rattle.suite.specs.declared.IntegritySizes.{IntegritySizes}
use Rattle.suite.specs.declared.Sizes.{Sizes}
use Rattle.suite.specs.declared.Triple.{Triple}
use Rattle.pairing.specs.Pairing.{both, paired, pairing, pair_serves, check_value, pair_sealed, opened_at, pair_opened}

-- what is served is served by both
record Parts (a : Option CipherSizes) (b : Option IntegritySizes) (z : Sizes) : Type 0 where
  cipher : CipherSizes
  integrity : IntegritySizes
  cipher_told : a ≡ Some cipher
  integrity_told : b ≡ Some integrity
  together : both cipher integrity ≡ z

parts : (a : Option CipherSizes) (b : Option IntegritySizes) (z : Sizes) → paired a b ≡ Some z → Parts a b z
parts None None z e = cc
parts None (Some i) z e = cc
parts (Some c) None z e = cc
parts (Some c) (Some i) z e =
    record { cipher = c; integrity = i; cipher_told = refl; integrity_told = refl; together = cc }

module _ (c : CipherMeaning) (i : IntegrityMeaning) where
  -- what the cipher and the integrity algorithm tell where the pair is served
  pub record Sides (t : Triple) (z : Sizes) (g : Given) : Type 0 where
    pub cipher : CipherSizes
    pub integrity : IntegritySizes
    pub together : both cipher integrity ≡ z
    pub cipher_told : c.serves t.encryption (length g.key) ≡ Some cipher
    pub integrity_told : i.serves t.integrity ≡ Some integrity
    pub vector : length g.vector ≡ cipher.vector

  pub sides : (t : Triple) (z : Sizes) (g : Given) → pair_serves c i t ≡ Some z → Lengths t z g → Sides t z g
  sides t z g told l =
      let p = parts (c.serves t.encryption t.key) (i.serves t.integrity) z told in
      record {
        cipher = p.cipher;
        integrity = p.integrity;
        together = p.together;
        cipher_told = cc;
        integrity_told = p.integrity_told;
        vector = cc;
      }

  pub whole-units : (t : Triple) (z : Sizes) (g : Given) (s : Sides t z g) (n : ℕ) → n % z.unit ≡ 0 → n % s.cipher.unit ≡ 0
  whole-units t z g s n u = ap (λ (w : Sizes). n % w.unit) s.together ∙ u

  pub check-length : CheckValueHasItsSize i → (t : Triple) (z : Sizes) (g : Given) → Sides t z g → (e : List ℕ) → length (check_value c i t g e) ≡ z.check
  check-length size t z g s e =
      (size t.integrity s.integrity g.integrity _ s.integrity_told).1 ∙ ap (λ (w : Sizes). w.check) s.together

  module _ (cipher-bounds : CipherSizesAreBounded c) (integrity-bounds : IntegritySizesAreBounded i) where
    bounded : (t : Triple) (a : CipherSizes) (b : IntegritySizes) → BoundedCipher t.key a → BoundedIntegrity b → Bounded t (both a b)
    bounded t a b ca ib = record {
      key = ca.key;
      integrity = ib.key;
      salt = omega arith;
      vector = ca.vector;
      some_check = ib.some_check;
      check = ib.check;
      some_unit = ca.some_unit;
      unit = ca.unit;
      unit_in_clear = ca.unit_in_clear;
    }

    pub sizes_are_bounded : SizesAreBounded (pairing c i)
    sizes_are_bounded t z e =
        let p = parts (c.serves t.encryption t.key) (i.serves t.integrity) z e in
        subst (Bounded t) p.together
        (bounded t p.cipher p.integrity
        (cipher-bounds t.encryption t.key p.cipher p.cipher_told)
        (integrity-bounds t.integrity p.integrity p.integrity_told))

  pub sealing_adds_the_check_value : KeepsLength c c.enciphered → CheckValueHasItsSize i → SealingAddsTheCheckValue (pairing c i)
  sealing_adds_the_check_value keeps size t z g x told fit text =
      let s = sides t z g told (lengths t z g fit) in
      let e = c.enciphered g.key g.vector x in
      let long : length e ≡ length x =
      keeps t.encryption s.cipher g.key g.vector x s.cipher_told s.vector
      (whole-units t z g s (length x) (units z (length x) text)) in
      omega (arith, length-append e (check_value c i t g e), check-length size t z g s e)

  module _ (t : Triple) (g : Given) (s : Served (pairing c i) t g) where
    side : Sides t s.sizes g
    side = sides t s.sizes g s.told (lengths t s.sizes g s.fitting.lengths)

    fitting : FittingCipher c t.encryption side.cipher g.key g.vector
    fitting = record {
      told = side.cipher_told;
      length_of_vector = side.vector;
      key_bytes = s.fitting.key;
      vector_bytes = s.fitting.vector;
    }

    whole : (x : List ℕ) → Octets x → text_fits s.sizes (length x) ≡ true → Whole side.cipher x
    whole x bytes fits = record {
      bytes = bytes;
      units = whole-units t s.sizes g side (length x) (units s.sizes (length x) fits);
    }

    check-told : check_size (pair_serves c i t) ≡ s.sizes.check
    check-told = ap check_size s.told

    gives-bytes : GivesBytes c c.enciphered → CheckValueHasItsSize i → (x : List ℕ) → Text s.sizes x → Octets (pair_sealed c i t g x)
    gives-bytes enciphering-gives check-size x text =
        All-append (λ n. n < 256) _ _
        (enciphering-gives t.encryption side.cipher g.key g.vector x (fitting) (whole x text.bytes text.fits))
        (check-size t.integrity side.integrity g.integrity _ side.integrity_told).0

    pair_opened-opened_at : (n : ℕ) (y : List ℕ) → length y - check_size (pair_serves c i t) ≡ n → pair_opened c i t g y ≡ opened_at c i n t g y
    pair_opened-opened_at n y e = ap (λ m. opened_at c i m t g y) e

    opening-undoes : DecipheringUndoesEnciphering c → CheckValueHasItsSize i → (x : List ℕ) → Text s.sizes x
        → pair_opened c i t g (pair_sealed c i t g x) ≡ Some x
    opening-undoes deciphering_undoes check-size x text =
        let whole-x = whole x text.bytes text.fits in
        let e = c.enciphered g.key g.vector x in
        let v = check_value c i t g e in
        let n : length (e ++ v) - check_size (pair_serves c i t) ≡ length e =
        omega (arith, length-append e v, check-length check-size t s.sizes g side e, check-told) in
        let right : same (drop (length e) (e ++ v)) (check_value c i t g (take (length e) (e ++ v))) ≡ true =
        rw (drop_at e v (length e) refl, take_at e v (length e) refl) (same_refl v) in
        pair_opened-opened_at (length e) (e ++ v) n
        ∙ (ap (λ b. cond b (Some (c.deciphered g.key g.vector (take (length e) (e ++ v)))) None) right
        ∙ (ap (λ w. Some (c.deciphered g.key g.vector w)) (take_at e v (length e) refl)
        ∙ ap Some (deciphering_undoes t.encryption side.cipher g.key g.vector x (fitting) whole-x)))

    -- the enciphered part is what the text enciphers to, and the check value is over it
    taken_apart : EncipheringUndoesDeciphering c → (n : ℕ) (x y : List ℕ) (b : Bool)
        → Whole side.cipher (take n y) → same (drop n y) (check_value c i t g (take n y)) ≡ b
        → cond b (Some (c.deciphered g.key g.vector (take n y))) None ≡ Some x
        → (c.deciphered g.key g.vector (take n y) ≡ x) × (pair_sealed c i t g x ≡ y)
    taken_apart enciphering_undoes n x y false h e o = cc
    taken_apart enciphering_undoes n x y true h e o =
        let is : c.deciphered g.key g.vector (take n y) ≡ x = cc in
        let back : c.enciphered g.key g.vector x ≡ take n y =
        ap (c.enciphered g.key g.vector) (sym is)
        ∙ enciphering_undoes t.encryption side.cipher g.key g.vector (take n y) (fitting) h in
        let value = same_true (drop n y) (check_value c i t g (take n y)) e in (
          is,
          ap (λ w. w ++ check_value c i t g w) back
              ∙ (ap (λ w. take n y ++ w) (sym value) ∙ take-append-drop n y),
        )

    what_opens : KeepsLength c c.deciphered → GivesBytes c c.deciphered → EncipheringUndoesDeciphering c
        → (x y : List ℕ) → Sealed s.sizes y → pair_opened c i t g y ≡ Some x
        → Text s.sizes x × (pair_sealed c i t g x ≡ y)
    what_opens deciphering-keeps deciphering-gives enciphering_undoes x y h o =
        let n = length y - s.sizes.check in
        let n-is : length y - check_size (pair_serves c i t) ≡ n = ap (λ k. length y - k) check-told in
        let long : length (take n y) ≡ n = length-take-le n y (omega arith) in
        let bytes = All-take (λ k. k < 256) n y h.bytes in
        let whole-e = whole (take n y) bytes (ap (text_fits s.sizes) long ∙ h.fits) in
        let apart = taken_apart enciphering_undoes n x y (same (drop n y) (check_value c i t g (take n y))) whole-e refl (sym (pair_opened-opened_at n y n-is) ∙ o) in
        let kept : length (c.deciphered g.key g.vector (take n y)) ≡ length (take n y) =
        deciphering-keeps t.encryption side.cipher g.key g.vector (take n y) side.cipher_told side.vector whole-e.units in
        let as_long : length x ≡ n = ap length (sym apart.0) ∙ (kept ∙ long) in (
          record {
            bytes = subst Octets apart.0 (deciphering-gives t.encryption side.cipher g.key g.vector (take n y) fitting whole-e);
            fits = ap (text_fits s.sizes) as_long ∙ h.fits;
          },
          apart.1,
        )

  pub sealing-gives-bytes : GivesBytes c c.enciphered → CheckValueHasItsSize i → SealingGivesBytes (pairing c i)
  sealing-gives-bytes gives size t g s = gives-bytes t g s gives size

  pub opening-undoes-sealing : DecipheringUndoesEnciphering c → CheckValueHasItsSize i → OpeningUndoesSealing (pairing c i)
  opening-undoes-sealing undoes size t g s = opening-undoes t g s undoes size

  pub what_opens_was_sealed : KeepsLength c c.deciphered → GivesBytes c c.deciphered → EncipheringUndoesDeciphering c → WhatOpensWasSealed (pairing c i)
  what_opens_was_sealed keeps gives undoes t g s = what_opens t g s keeps gives undoes
