-- CCM keeps the laws of a suite, since its block cipher keeps its own. Assumes nothing.
use Rattle.std.specs.Prelude.{◌≡◌, ℕ, ◌+◌, ◌-◌, ◌<◌, ◌≤◌, Bool, true, false, cond, ◌&&◌, List, length, is_some, Some, None, Option, ◌==◌, refl}
use Rattle.std.proofs.Common.{ap, subst, ◌∙◌, arith}
use Rattle.std.proofs.ByRecursion.{All-append}
use Rattle.std.proofs.lemmas.List.{length-append}
use Rattle.std.proofs.lemmas.Bool.{true≢false}
use Rattle.octets.specs.Octets.{Octets}
use Rattle.ccm.proofs.Sizes.{length-sealed}
use Rattle.ccm.proofs.RoundTrip.{octets-sealed, octets-masked, opened-sealed, sealed-opened, length-opened, octets-opened}
use Rattle.suite.specs.Fits.{Lengths}
use Rattle.suite.specs.Laws.{Bounded, Served, Sealed, Text, SizesAreBounded, SealingAddsTheCheckValue, SealingGivesBytes, OpeningUndoesSealing, WhatOpensWasSealed}
use Rattle.suite.specs.Meaning.{Given, text_fits}
use Rattle.suite.specs.declared.Sizes.{Sizes}
use Rattle.suite.specs.declared.Triple.{Triple}
use Rattle.suite.proofs.Lengths.{lengths}
use Rattle.combined.specs.CcmSuite.{ccm_sizes, sizes_of, nonce, ccm_serves, ccm_sealed, ccm_opened, ccm_suite}

-- what is served has the sizes of CCM, and a key that the block cipher takes
pub record Terms (o : Option ℕ) (z : Sizes) : Type 0 where
  pub schedule : ℕ
  pub taken : o ≡ Some schedule
  pub same_sizes : ccm_sizes ≡ z

told-terms : (b : Bool) (o : Option ℕ) (z : Sizes) → cond b (sizes_of o) None ≡ Some z → Terms o z
told-terms false o z e = cc
told-terms true None z e = cc
told-terms true (Some n) z e = record { schedule = n; taken = refl; same_sizes = cc }

pub terms : (scheduled : ℕ → Option ℕ) (encryption integrity : ℕ) (t : Triple) (z : Sizes)
    → ccm_serves scheduled encryption integrity t ≡ Some z → Terms (scheduled t.key) z
terms scheduled encryption integrity t z e =
    told-terms (t.encryption == encryption && t.integrity == integrity) (scheduled t.key) z e

-- what fits a triple that is served, in numbers
pub record Keyed (scheduled : ℕ → Option ℕ) (z : Sizes) (g : Given) : Type 0 where
  pub taken : is_some (scheduled (length g.key)) ≡ true
  pub salt : length g.salt ≡ 3
  pub vector : length g.vector ≡ 8
  pub check : z.check ≡ 16

pub keyed : (scheduled : ℕ → Option ℕ) (t : Triple) (z : Sizes) (g : Given) → Terms (scheduled t.key) z → Lengths t z g → Keyed scheduled z g
keyed scheduled t z g p l = record {
  taken = ap is_some (ap scheduled l.key ∙ p.taken);
  salt = cc;
  vector = cc;
  check = cc;
}

length-nonce : (g : Given) → length g.salt ≡ 3 → length g.vector ≡ 8 → length (nonce g) ≡ 11
length-nonce g salt vector = omega (arith, length-append g.salt g.vector)

module _ (scheduled : ℕ → Option ℕ) (expanded : List ℕ → List ℕ) (forward : List ℕ → List ℕ → List ℕ) (encryption integrity : ℕ) where
  pub sizes_are_bounded : ((n m : ℕ) → scheduled n ≡ Some m → n ≤ 32) → SizesAreBounded (ccm_suite scheduled expanded forward encryption integrity)
  sizes_are_bounded short t z e =
      let p = terms scheduled encryption integrity t z e in
      subst (Bounded t) p.same_sizes
      record {
        key = short t.key p.schedule p.taken;
        integrity = omega arith;
        salt = omega arith;
        vector = omega arith;
        some_check = omega arith;
        check = omega arith;
        some_unit = omega arith;
        unit = omega arith;
        unit_in_clear = λ no'. absurd (true≢false no');
      }

  module _ (keeps : (w b : List ℕ) → length b ≡ 16 → length (forward w b) ≡ 16) where
    pub sealing_adds_the_check_value : SealingAddsTheCheckValue (ccm_suite scheduled expanded forward encryption integrity)
    sealing_adds_the_check_value t z g x e fit text =
        let p = terms scheduled encryption integrity t z e in
        let k = keyed scheduled t z g p (lengths t z g fit) in
        let eleven = length-nonce g k.salt k.vector in
        length-sealed (forward (expanded g.key)) (keeps (expanded g.key)) 16 (nonce g) g.head x (omega arith) (omega arith)
        ∙ ap (λ (w : Sizes). length x + w.check) p.same_sizes

    module _ (t : Triple) (g : Given) (s : Served (ccm_suite scheduled expanded forward encryption integrity) t g) where
      own : Terms (scheduled t.key) s.sizes
      own = terms scheduled encryption integrity t s.sizes s.told

      fit : Lengths t s.sizes g
      fit = lengths t s.sizes g s.fitting.lengths

      short : length (nonce g) ≤ 15
      short =
          let k = keyed scheduled t s.sizes g own fit in
          let eleven = length-nonce g k.salt k.vector in
          omega arith

      undoes : (x : List ℕ) → ccm_opened expanded forward g (ccm_sealed expanded forward g x) ≡ Some x
      undoes x = opened-sealed (forward (expanded g.key)) (keeps (expanded g.key)) 16 (nonce g) g.head short (omega arith) x

      module _ (expanding-gives : (k : List ℕ) (m : ℕ) → scheduled (length k) ≡ Some m → Octets k → Octets (expanded k))
          (forward-gives : (w b : List ℕ) → Octets w → Octets b → length b ≡ 16 → Octets (forward w b)) where
        gives : (b : List ℕ) → Octets b → length b ≡ 16 → Octets (forward (expanded g.key) b)
        gives b bytes long =
            forward-gives (expanded g.key) b
            (expanding-gives g.key own.schedule (ap scheduled fit.key ∙ own.taken) s.fitting.key)
            bytes long

        nonce-bytes : Octets (nonce g)
        nonce-bytes = All-append (λ n. n < 256) g.salt g.vector s.fitting.salt s.fitting.vector

        gives-bytes : (x : List ℕ) → Text s.sizes x → Octets (ccm_sealed expanded forward g x)
        gives-bytes x text =
            octets-sealed (forward (expanded g.key)) (keeps (expanded g.key)) gives (nonce g) short nonce-bytes 16 g.head (omega arith)
            s.fitting.head x text.bytes

        what_opens : (x y : List ℕ) → Sealed s.sizes y → ccm_opened expanded forward g y ≡ Some x
            → Text s.sizes x × (ccm_sealed expanded forward g x ≡ y)
        what_opens x y h opens =
            let e = forward (expanded g.key) in
            let long : length x ≡ length y - s.sizes.check =
            length-opened e 16 (nonce g) g.head x y opens ∙ ap (λ (w : Sizes). length y - w.check) own.same_sizes in (
              record {
                bytes =
                    octets-opened e 16 (nonce g) g.head x y opens
                    (octets-masked e (keeps (expanded g.key)) gives (nonce g) short nonce-bytes) h.bytes;
                fits = ap (text_fits s.sizes) long ∙ h.fits;
              },
              sealed-opened e 16 (nonce g) g.head x y opens,
            )

    pub opening-undoes-sealing : OpeningUndoesSealing (ccm_suite scheduled expanded forward encryption integrity)
    opening-undoes-sealing t g s x text = undoes t g s x

    module _ (expanding-gives : (k : List ℕ) (m : ℕ) → scheduled (length k) ≡ Some m → Octets k → Octets (expanded k))
        (forward-gives : (w b : List ℕ) → Octets w → Octets b → length b ≡ 16 → Octets (forward w b)) where
      pub sealing-gives-bytes : SealingGivesBytes (ccm_suite scheduled expanded forward encryption integrity)
      sealing-gives-bytes t g s = gives-bytes t g s expanding-gives forward-gives

      pub what_opens_was_sealed : WhatOpensWasSealed (ccm_suite scheduled expanded forward encryption integrity)
      what_opens_was_sealed t g s = what_opens t g s expanding-gives forward-gives
