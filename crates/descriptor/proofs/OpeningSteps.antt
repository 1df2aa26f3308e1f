-- The steps of opening a descriptor, over plain lists. Assumes nothing.
use Rattle.std.proofs.Common.{◌≡◌, ℕ, ◌-◌, ◌<◌, ◌≤◌, Bool, true, false, cond, not, List, ◌++◌, length, take, drop, Some, None, Ok, Err, Option, Result, sym, refl, ap, ◌∙◌, arith}
use borrow.Rule.Slice.PartMut.{put_mid}
use Rattle.std.specs.List.{between}
use Rattle.std.specs.Option.{ok_or}
use Rattle.std.proofs.ByRecursion.{All-drop, All-take}
use Rattle.std.proofs.lemmas.List.{length-append, length-take-le, length-drop, length-replicate}
use Rattle.octets.specs.Octets.{Octets, over, wiped, zeros}
use Rattle.octets.proofs.Octets.{over_all, over-append, over-over, wiped_all, wiped-fits}
use Rattle.padding.specs.Padding.{data_length, unpadded, cut}
use Rattle.layout.specs.Frame.{InARow}
use Rattle.layout.specs.declared.Frame.{Frame}
use Rattle.layout.specs.declared.Parts.{Parts}
use Rattle.suite.specs.Fits.{Lengths, Openable}
use Rattle.suite.specs.Laws.{Served, Text, SealingAddsTheCheckValue, WhatOpensWasSealed}
use Rattle.suite.specs.Meaning.{Given, Meaning, counted, opening_fits}
use Rattle.suite.specs.Meaning as suite
use Rattle.suite.specs.declared.Fault.{Fault as SuiteFault}
use Rattle.suite.specs.declared.Fault.TheVariants.{Size, Mismatch}
use Rattle.suite.specs.declared.Sizes.{Sizes}
use Rattle.suite.specs.declared.Triple.{Triple}
use Rattle.suite.proofs.Lengths.{openable, lengths-fit, text-fits}
use Rattle.descriptor.specs.Opening.{data_after, unpadding, work_after}
use Rattle.descriptor.specs.Text.{data_of}

-- where the suite does not encrypt, the data are the text
pub text_in_clear : (z : Sizes) (text : List ℕ) → not z.encrypts ≡ true → data_of z text ≡ Some text
text_in_clear z text e = by z.encrypts e
  where
    by : (b : Bool) → not b ≡ true → cond b (unpadded text) (Some text) ≡ Some text
    by true h = absurd (let n : ◌≡◌ {A = ℕ} 0 1 = cc in omega arith)
    by false h = refl

-- where the suite encrypts, the data are what unpadding leaves
pub text-padded : (z : Sizes) (text : List ℕ) (n : Option ℕ) → z.encrypts ≡ true → n ≡ data_length text → data_of z text ≡ cut n text
text-padded z text n e is = ap (λ b. cond b (unpadded text) (Some text)) e ∙ ap (λ k. cut k text) (sym is)

-- the first n bytes kept and zeros behind them up to t
pub front_and_zeros : (n t : ℕ) (part buffer : List ℕ) → n ≤ t → t ≤ length buffer → part ≡ wiped (t - n) (take (t - n) (drop n buffer))
    → put_mid n (t - n) buffer part ≡ over (take n buffer ++ zeros (t - n)) buffer
front_and_zeros n t part buffer low high is =
    let front : length (take n buffer) ≡ n = length-take-le n buffer (omega arith) in
    let mid : length (take (t - n) (drop n buffer)) ≡ t - n = length-take-le (t - n) (drop n buffer) (omega (arith, length-drop n buffer)) in
    let zero : part ≡ zeros (t - n) = is ∙ (wiped_all (t - n) _ (omega arith) ∙ ap zeros mid) in
    let kept : over (take n buffer) (take (length (take n buffer)) buffer) ≡ take n buffer =
    ap (λ k. over (take n buffer) (take k buffer)) front ∙ over_all (take n buffer) (take n buffer) refl in
    let rest : wiped (t - n) (drop (length (take n buffer)) buffer) ≡ zeros (t - n) ++ drop (t - n) (drop n buffer) =
    ap (λ k. wiped (t - n) (drop k buffer)) front ∙ wiped-fits (t - n) (drop n buffer) (omega (arith, length-drop n buffer)) in
    ap (λ w. take n buffer ++ (w ++ drop (t - n) (drop n buffer))) zero
    ∙ sym (over-append (take n buffer) (zeros (t - n)) buffer ∙ (ap (λ w. w ++ wiped (t - n) (drop (length (take n buffer)) buffer)) kept
    ∙ ap (λ w. take n buffer ++ w) rest))

-- data written over the text that stood there
pub written_again : (o : Option (List ℕ)) (e : ℕ) (text buffer : List ℕ) → length text ≤ e
    → data_after (unpadding o e) (over text buffer) ≡ data_after (unpadding o e) buffer
written_again (Some xs) e text buffer h =
    over-over (xs ++ zeros (e - length xs)) text buffer (simp (length-append, length-replicate) (omega arith))
written_again None e text buffer h = over-over (zeros e) text buffer (simp length-replicate h)

pub work_wiped : (o : Option (List ℕ)) (e : ℕ) (work : List ℕ) → work_after (unpadding o e) work ≡ wiped 240 work
work_wiped (Some xs) e work = refl
work_wiped None e work = refl

-- what a suite's call took is bytes
pub record Bytes (g : Given) (y : List ℕ) : Type 0 where
  pub key : Octets g.key
  pub salt : Octets g.salt
  pub integrity : Octets g.integrity
  pub head : Octets g.head
  pub vector : Octets g.vector
  pub sealed : Octets y

-- the text that a suite gave, with what its laws say of it
pub record GivenText (m : Meaning) (t : Triple) (z : Sizes) (g : Given) (y buffer work : List ℕ) (n : ℕ) : Type 0 where
  pub text : List ℕ
  pub is : suite.opening m t g y buffer work ≡ Ok text
  pub counted_so : length text ≡ n
  pub fits : Openable t z g (length y) (length buffer) (length work)
  pub text-fits : Text z text
  pub sealed : m.sealed t g text ≡ y
  pub whole : length text ≡ length y - z.check

module _ (m : Meaning) (t : Triple) (z : Sizes) (g : Given) (y buffer work : List ℕ) (told : m.serves t ≡ Some z) where
  abbrev pub served_with : Lengths t z g → Bytes g y → Served m t g
  served_with lengths bytes = record {
    sizes = z;
    told = told;
    fitting = record {
      lengths = lengths-fit t z g lengths;
      key = bytes.key;
      salt = bytes.salt;
      integrity = bytes.integrity;
      head = bytes.head;
      vector = bytes.vector;
    };
  }

  counted_ok : (o : Result (List ℕ) SuiteFault) (n : ℕ) → counted o ≡ Ok n → (text : List ℕ) × ((o ≡ Ok text) × (length text ≡ n))
  counted_ok (Ok x) n e = (x, (refl, cc))
  counted_ok (Err f) n e = absurd (let z : ◌≡◌ {A = ℕ} 0 1 = cc in omega arith)

  some_of : (o : Option (List ℕ)) (text : List ℕ) → ok_or o Mismatch ≡ Ok text → o ≡ Some text
  some_of (Some x) text e = cc
  some_of None text e = absurd (let z : ◌≡◌ {A = ℕ} 0 1 = cc in omega arith)

  fits_of : (b : Bool) (text : List ℕ) → cond b (ok_or (m.opened t g y) Mismatch) (Err Size) ≡ Ok text
      → (b ≡ true) × (m.opened t g y ≡ Some text)
  fits_of true text e = (refl, some_of (m.opened t g y) text e)
  fits_of false text e = absurd (let z : ◌≡◌ {A = ℕ} 0 1 = cc in omega arith)

  pub given-text : WhatOpensWasSealed m → SealingAddsTheCheckValue m → Bytes g y
      → (n : ℕ) → counted (suite.opening m t g y buffer work) ≡ Ok n → GivenText m t z g y buffer work n
  given-text opens adds bytes n e =
      let found = counted_ok (suite.opening m t g y buffer work) n e in
      let text = found.0 in
      let both = fits_of (opening_fits t z g (length y) (length buffer) (length work)) text
      (sym (ap (λ o. suite.opening_by o m t g y buffer work) told) ∙ found.1.0) in
      let fits = openable t z g (length y) (length buffer) (length work) both.0 in
      let lengths = lengths-fit t z g fits.lengths in
      let served = served_with fits.lengths bytes in
      let was = opens t g served text y (record {
        bytes = bytes.sealed;
        check = fits.check;
        fits = text-fits z (length y - z.check) fits.units fits.short;
      }) both.1 in
      let long = adds t z g text told lengths was.0.fits in
      let same : length (m.sealed t g text) ≡ length y = ap length was.1 in
      record {
        text = text;
        is = found.1.0;
        counted_so = found.1.1;
        fits = fits;
        text-fits = was.0;
        sealed = was.1;
        whole = omega arith;
      }

-- a part of bytes is bytes
pub octets-between : (a b : ℕ) (list : List ℕ) → Octets list → Octets (between a b list)
octets-between a b list h = let byte : ℕ → Type 0 = λ x. x < 256 in All-take byte (b - a) (drop a list) (All-drop byte a list h)

-- the length of the protected part, by its places and by what stands there
pub length-protected : (f : Frame) (s c : ℕ) (at : Parts) (list : List ℕ) → InARow f s c at → f.end ≤ length list
    → length (between at.protected at.end list) - c ≡ at.check - at.protected
length-protected f s c at list row within =
    let v = row.vector_after_sqn in
    let p = row.protected_after_vector in
    let k = row.check_after_protected in
    let e = row.check_to_end in
    let l = row.end_of_frame in
    let long : length (between at.protected at.end list) ≡ at.end - at.protected =
    length-take-le (at.end - at.protected) (drop at.protected list) (omega (arith, length-drop at.protected list)) in
    omega arith
