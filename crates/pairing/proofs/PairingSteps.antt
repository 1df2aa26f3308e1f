-- The steps of sealing and opening a pairing, over plain lists. Assumes nothing.
use Rattle.std.proofs.Common.{◌≡◌, ℕ, ◌+◌, ◌-◌, ◌%◌, ◌≤◌, Bool, cond, List, ◌++◌, length, take, drop, Some, None, sym, ap, ◌∙◌, append_assoc, arith}
use Rattle.std.proofs.lemmas.List.{length-append, length-take-le, length-drop, take_at, drop-drop}
use Rattle.octets.specs.Octets.{over, same}
use Rattle.octets.proofs.Octets.{over-fits, over_all}
use Rattle.suite.specs.Cipher.{CipherMeaning, ciphering, text_after}
use Rattle.suite.specs.Fits.{Lengths}
use Rattle.suite.specs.Integrity.{IntegrityMeaning, CheckValueHasItsSize}
use Rattle.suite.specs.Meaning.{Given, check_size}
use Rattle.suite.specs.declared.Sizes.{Sizes}
use Rattle.suite.specs.declared.Triple.{Triple}
use Rattle.suite.proofs.Outcomes.{ciphering-served}
use Rattle.pairing.specs.Pairing.{pair_serves, pair_sealed, pair_opened, opened_at, check_value}
use Rattle.pairing.specs.PairingLaws.{sides, whole-units, check-length}

-- e stands in the first n bytes of a buffer, and v in the k behind them
behind : (e v out : List ℕ) (n k : ℕ) → length e ≡ n → length v ≡ k → n + k ≤ length out → e ++ (v ++ drop k (drop n out)) ≡ over (e ++ v) out
behind e v out n k en vk room =
    ap (λ w. e ++ (v ++ w)) (drop-drop k n out ∙ ap (λ m. drop m out) (omega (arith, length-append e v)))
    ∙ (sym (append_assoc e v (drop (length (e ++ v)) out)) ∙ sym (over-fits (e ++ v) out (omega (arith, length-append e v))))

module _ (c : CipherMeaning) (i : IntegrityMeaning) (t : Triple) (z : Sizes) (g : Given) (served : pair_serves c i t ≡ Some z) (l : Lengths t z g) where
  -- what the cipher makes of a text that fits the pair
  pub turned_there : (turned : List ℕ → List ℕ → List ℕ → List ℕ) (x old new work : List ℕ) → old ≡ x → length x % z.unit ≡ 0 → 240 ≤ length work
      → new ≡ text_after (ciphering turned c t.encryption g.key g.vector old work) old → new ≡ turned g.key g.vector x
  turned_there turned x old new work same units room is =
      let s = sides c i t z g served l in
      is
      ∙ (ap (λ r. text_after r old)
      (ciphering-served turned c t.encryption s.cipher g.key g.vector old work s.cipher_told s.vector
      (whole-units c i t z g s (length old) (ap (λ w. length w % z.unit) same ∙ units)) room)
      ∙ ap (turned g.key g.vector) same)

  module _ (size : CheckValueHasItsSize i) where
    value-long : (e : List ℕ) → length (check_value c i t g e) ≡ z.check
    value-long e = check-length c i size t z g (sides c i t z g served l) e

    -- the text is enciphered in place, and the check value written into the first bytes of the rest
    pub sealed_there : (n : ℕ) (out rest new value : List ℕ) → rest ≡ drop n out → length new ≡ n → n + z.check ≤ length out
        → new ≡ c.enciphered g.key g.vector (take n out) → value ≡ over (check_value c i t g new) (take z.check rest)
        → new ++ (value ++ drop z.check rest) ≡ over (pair_sealed c i t g (take n out)) out
    sealed_there n out rest new value behind-it long room e-is value-is =
        let v = check_value c i t g new in
        let rest-long : z.check ≤ length rest = omega (arith, ap length behind-it, length-drop n out) in
        let v-is : value ≡ v =
        value-is ∙ over_all v (take z.check rest) (value-long new ∙ sym (length-take-le z.check rest rest-long)) in
        ap (λ w. new ++ (w ++ drop z.check rest)) v-is
        ∙ (ap (λ w. new ++ (v ++ drop z.check w)) behind-it
        ∙ (behind new v out n z.check long (value-long new) room ∙ ap (λ e. over (e ++ check_value c i t g e) out) e-is))

    -- what opening comes to, once the check value behind the enciphered part was compared
    pub compared : (y e check value zs : List ℕ) (b r : Bool) → e ≡ take (length y - z.check) y → check ≡ drop (length y - z.check) y
        → z.check ≤ length zs → value ≡ over (check_value c i t g e) zs → r ≡ same check (take z.check value) → r ≡ b
        → pair_opened c i t g y ≡ cond b (Some (c.deciphered g.key g.vector (take (length y - z.check) y))) None
    compared y e check value zs b r e-is check-is room value-is test rb =
        let n = length y - z.check in
        let v = check_value c i t g e in
        let long = value-long e in
        let front : take z.check value ≡ v =
        ap (take z.check) (value-is ∙ over-fits v zs (omega arith)) ∙ take_at v (drop (length v) zs) z.check long in
        let right : same (drop n y) (check_value c i t g (take n y)) ≡ b =
        ap (λ w. same w (check_value c i t g (take n y))) (sym check-is)
        ∙ (ap (λ w. same check (check_value c i t g w)) (sym e-is) ∙ (ap (same check) (sym front) ∙ (sym test ∙ rb))) in
        ap (λ o. opened_at c i (length y - check_size o) t g y) served
        ∙ ap (λ w. cond w (Some (c.deciphered g.key g.vector (take n y))) None) right
