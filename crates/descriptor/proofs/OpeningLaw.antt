-- Data that opening gives are those of the one text that seals to what stands in the list. Assumes nothing.
use Rattle.std.proofs.Common.{◌≡◌, ℕ, ◌-◌, ◌≤◌, Bool, true, false, cond, List, ◌++◌, length, take, drop, IfOk, Some, None, Ok, Err, Option, Result, sym, refl, ap, ◌∙◌, subst, append_assoc, arith}
use Rattle.std.proofs.lemmas.List.{length-append, length-replicate, take_at}
use Rattle.octets.specs.Octets.{Octets, over, zeros}
use Rattle.octets.proofs.Octets.{over-fits}
use Rattle.layout.specs.Frame.{InARow, parted, parts_at, part_tests}
use Rattle.layout.specs.declared.Frame.{Frame}
use Rattle.layout.specs.declared.Parts.{Parts}
use Rattle.layout.proofs.Refusals.{passed_from_ok}
use Rattle.padding.specs.Padding.{Padded, padded, unpadded}
use Rattle.padding.proofs.Laws.{undoes_only_padding, padded_one_way, length-padded}
use Rattle.suite.specs.Laws.{Text, OpeningUndoesSealing, SealingAddsTheCheckValue, WhatOpensWasSealed}
use Rattle.suite.specs.Meaning.{Given, Meaning, counted}
use Rattle.suite.specs.Meaning as suite
use Rattle.suite.specs.declared.Fault.{Fault as SuiteFault}
use Rattle.suite.specs.declared.Fault.TheVariants.{NotServed, Size, Mismatch}
use Rattle.suite.specs.declared.Sizes.{Sizes}
use Rattle.suite.specs.declared.Triple.{Triple}
use Rattle.descriptor.specs.Laws.{SealingOf, given_in, sealed_in}
use Rattle.descriptor.specs.Opening.{answer, concluded, data_after, parts_opening, unpadding}
use Rattle.descriptor.specs.Text.{data_of, TextOf}
use Rattle.descriptor.specs.declared.fault.Fault.{Fault}
use Rattle.descriptor.specs.declared.protection.Protection.{Protection}
use Rattle.descriptor.proofs.OpeningSteps.{Bytes, given-text, served_with, octets-between, length-protected}

-- data and their text, by whether the suite encrypts
abbrev DataOf : Bool → List ℕ → List ℕ → Type 0
DataOf b xs text = cond b ((p : ℕ) × Padded xs p text) (text ≡ xs)

text_of : (b : Bool) (xs text : List ℕ) → cond b (unpadded text) (Some text) ≡ Some xs → DataOf b xs text
text_of true xs text e = undoes_only_padding xs text e
text_of false xs text e = cc

one_data : (b : Bool) (xs ys text : List ℕ) → DataOf b xs text → DataOf b ys text → ys ≡ xs
one_data true xs ys text h k = (padded_one_way ys xs text k.0 h.0 k.1 h.1).0
one_data false xs ys text h k = sym k ∙ h

no_longer : (b : Bool) (xs text : List ℕ) → DataOf b xs text → length xs ≤ length text
no_longer true xs text h =
    let is : length text ≡ length (padded h.0 xs) = ap length h.1.is in omega (arith, length-padded h.0 xs)
no_longer false xs text h = let is : length text ≡ length xs = ap length h in omega arith

ok_one : (a b : List ℕ) → ◌≡◌ {A = Result (List ℕ) SuiteFault} (Ok a) (Ok b) → a ≡ b
ok_one a b e = cc

some_one : (a b : List ℕ) → Some a ≡ Some b → a ≡ b
some_one a b e = cc

-- what was opened where n data bytes are answered
record Yield (z : Sizes) (o : Result (List ℕ) SuiteFault) (n : ℕ) : Type 0 where
  text : List ℕ
  is : o ≡ Ok text
  xs : List ℕ
  data_is : data_of z text ≡ Some xs
  long : length xs ≡ n

some_data : (d : Option (List ℕ)) (e n : ℕ) → Ok n ≡ answer (unpadding d e) → (xs : List ℕ) × ((d ≡ Some xs) × (length xs ≡ n))
some_data (Some xs) e n h = (xs, (refl, cc))
some_data None e n h = absurd (let k : ◌≡◌ {A = ℕ} 0 1 = cc in omega arith)

yield_of : (z : Sizes) (e : ℕ) (o : Result (List ℕ) SuiteFault) (n : ℕ) → Ok n ≡ answer (concluded z e o) → Yield z o n
yield_of z e (Ok text) n h =
    let d = some_data (data_of z text) e n h in record { text = text; is = refl; xs = d.0; data_is = d.1.0; long = d.1.1 }
yield_of z e (Err NotServed) n h = absurd (let k : ◌≡◌ {A = ℕ} 0 1 = cc in omega arith)
yield_of z e (Err Size) n h = absurd (let k : ◌≡◌ {A = ℕ} 0 1 = cc in omega arith)
yield_of z e (Err Mismatch) n h = absurd (let k : ◌≡◌ {A = ℕ} 0 1 = cc in omega arith)

-- the data stand at the buffer's start
front_of : (xs zs buffer : List ℕ) (n : ℕ) → length xs ≡ n → length (xs ++ zs) ≤ length buffer → take n (over (xs ++ zs) buffer) ≡ xs
front_of xs zs buffer n long room =
    ap (take n) (over-fits (xs ++ zs) buffer room ∙ append_assoc xs zs (drop (length (xs ++ zs)) buffer))
    ∙ take_at xs (zs ++ drop (length (xs ++ zs)) buffer) n long

-- the data xs, padded in an allowed way, seal to y, and no other data do
pub record SealedData (m : Meaning) (t : Triple) (z : Sizes) (g : Given) (y xs : List ℕ) : Type 0 where
  pub text : List ℕ
  pub text-fits : Text z text
  pub text_of_data : TextOf z xs text
  pub sealed : m.sealed t g text ≡ y
  pub no_other : (ys other : List ℕ) → Text z other → TextOf z ys other → m.sealed t g other ≡ y → ys ≡ xs

module _ (m : Meaning) (t : Triple) (z : Sizes) (g : Given) (y buffer work : List ℕ) (told : m.serves t ≡ Some z)
    (opens : WhatOpensWasSealed m) (undoes : OpeningUndoesSealing m) (adds : SealingAddsTheCheckValue m) (bytes : Bytes g y) where
  pub sealed_data : (r : Result ℕ Fault) (e : ℕ) (after : List ℕ) → e ≡ length y - z.check
      → r ≡ answer (concluded z e (suite.opening m t g y buffer work)) → after ≡ data_after (concluded z e (suite.opening m t g y buffer work)) buffer
      → IfOk r (λ n. SealedData m t z g y (take n after))
  sealed_data (Err f) e after e-is r-is after_is = tt
  sealed_data (Ok n) e after e-is r-is after_is =
      let o = suite.opening m t g y buffer work in
      let w = yield_of z e o n r-is in
      let came = given-text m t z g y buffer work told opens adds bytes (length w.text) (ap counted w.is) in
      let xs = w.xs in
      let text = came.text in
      let same : text ≡ w.text = ok_one text w.text (sym came.is ∙ w.is) in
      let of-data : TextOf z xs text = subst (TextOf z xs) (sym same) (text_of z.encrypts xs w.text w.data_is) in
      let short : length xs ≤ length text = no_longer z.encrypts xs text of-data in
      let whole : length text ≡ length y - z.check = came.whole in
      let room : length y - z.check ≤ length buffer = came.fits.room in
      let zs = zeros (e - length xs) in
      let zs-long : length zs ≡ e - length xs = length-replicate (e - length xs) 0 in
      let both-fit : length (xs ++ zs) ≤ length buffer = omega (arith, length-append xs zs) in
      let written : after ≡ over (xs ++ zs) buffer =
      after_is ∙ (ap (λ r. data_after (concluded z e r) buffer) w.is ∙ ap (λ d. data_after (unpadding d e) buffer) w.data_is) in
      let front : take n after ≡ xs = ap (take n) written ∙ front_of xs zs buffer n w.long both-fit in
      let served = served_with m t z g y buffer work told came.fits.lengths bytes in
      let one : (other : List ℕ) → Text z other → m.sealed t g other ≡ y → other ≡ text = λ other fits is.
      some_one other text
      (sym (undoes t g served other fits) ∙ (ap (m.opened t g) (is ∙ sym came.sealed) ∙ undoes t g served text came.text-fits)) in
      subst (SealedData m t z g y) (sym front)
      (record {
        text = text;
        text-fits = came.text-fits;
        text_of_data = of-data;
        sealed = came.sealed;
        no_other = λ ys other fits of is. one_data z.encrypts xs ys text of-data (subst (TextOf z ys) (one other fits is) of);
      })

made_so : {P Q : ℕ → Type 0} → ((n : ℕ) → P n → Q n) → (r : Result ℕ Fault) → IfOk r P → IfOk r Q
made_so h (Ok n) p = h n p
made_so h (Err f) p = tt

-- keys and list are bytes
pub record OctetsOf (p : Protection) (list : List ℕ) : Type 0 where
  pub key : Octets p.key.now
  pub salt : Octets p.salt.now
  pub integrity : Octets p.integrity.now
  pub listed : Octets list

module _ (m : Meaning) (p : Protection) (list buffer work : List ℕ) (z : Sizes) (f : Frame) (told : m.serves p.triple ≡ Some z)
    (opens : WhatOpensWasSealed m) (undoes : OpeningUndoesSealing m) (adds : SealingAddsTheCheckValue m) (bytes : OctetsOf p list) where
  pub frame-sealed : (at : Parts) (r : Result ℕ Fault) (after : List ℕ) → parted f z.vector z.check z.unit z.encrypts ≡ Ok at
      → InARow f z.vector z.check at → f.end ≤ length list
      → r ≡ answer (parts_opening m p list buffer work z f (Ok at)) → after ≡ data_after (parts_opening m p list buffer work z f (Ok at)) buffer
      → IfOk r (λ n. SealingOf m p list f (take n after))
  frame-sealed at r after cut-so row within r-is after_is =
      let places = parts_at f z.vector z.check in
      let is : at ≡ places = (passed_from_ok (part_tests f z.vector z.check z.unit z.encrypts) places at cut-so).1 in
      let there : InARow f z.vector z.check places = subst (InARow f z.vector z.check) is row in
      let g = given_in p list f z in
      let y = sealed_in list f z in
      let all : Bytes g y = record {
        key = bytes.key;
        salt = bytes.salt;
        integrity = bytes.integrity;
        head = octets-between f.head places.vector list bytes.listed;
        vector = octets-between places.vector places.protected list bytes.listed;
        sealed = octets-between places.protected places.end list bytes.listed;
      } in
      made_so
      (λ n d. record {
        sizes = z;
        told = told;
        text = d.text;
        text-fits = d.text-fits;
        text_of_data = d.text_of_data;
        sealed = d.sealed;
        no_other = d.no_other;
      })
      r
      (sealed_data m p.triple z g y buffer work told opens undoes adds all r (places.check - places.protected) after
      (sym (length-protected f z.vector z.check places list there within))
      (r-is ∙ ap (λ w. answer (parts_opening m p list buffer work z f (Ok w))) is)
      (after_is ∙ ap (λ w. data_after (parts_opening m p list buffer work z f (Ok w)) buffer) is))
