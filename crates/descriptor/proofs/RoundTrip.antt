-- What is made opens to its data, for every suite. Assumes nothing.
use Rattle.std.proofs.Common.{◌≡◌, ℕ, ◌+◌, ◌-◌, ◌%◌, ◌^◌, ◌<◌, ◌≤◌, max, Bool, true, false, cond, ◌&&◌, eqb, List, ◌++◌, length, take, drop, IfOk, Some, Ok, Result, sym, refl, ap, ◌∙◌, subst, arith}
use Rattle.std.specs.List.{between}
use Rattle.std.specs.Option.{ok_or}
use Rattle.std.proofs.ByRecursion.{All-append}
use Rattle.std.proofs.lemmas.List.{length-append, take_at}
use Rattle.std.proofs.lemmas.Bool.{le-ltb, ne_eqb, and_left, and_right}
use Rattle.octets.specs.Octets.{over}
use Rattle.octets.specs.Numbers.{big_endian}
use Rattle.octets.proofs.Octets.{over-fits}
use Rattle.octets.proofs.BigEndian.{octets-big_endian}
use Rattle.padding.specs.Padding.{unpadded, least_pad}
use Rattle.padding.proofs.Laws.{unpadded-padded}
use Rattle.padding.proofs.Least.{least_pad_at_most_15}
use Rattle.layout.specs.Frame.{framed, parted, parts_at}
use Rattle.layout.specs.Layout.{descriptor, head_of, lead, span_of}
use Rattle.layout.specs.declared.Frame.{Frame}
use Rattle.layout.proofs.Framing as framing
use Rattle.suite.specs.Fits.{Lengths, Openable}
use Rattle.suite.specs.Laws.{Bounded, Served, Text, OpeningUndoesSealing, SealingAddsTheCheckValue}
use Rattle.suite.specs.Meaning.{Given, Meaning, lengths_fit, text_fits}
use Rattle.suite.specs.Meaning as suite
use Rattle.suite.specs.declared.Fault.TheVariants.{Mismatch}
use Rattle.suite.specs.declared.Sizes.{Sizes}
use Rattle.suite.proofs.Lengths.{lengths-fit, text-fits, opening-fits}
use Rattle.suite.proofs.Outcomes.{opening-served}
use Rattle.descriptor.specs.Laws.{AllBytes, OpensIn, OpensTo}
use Rattle.descriptor.specs.Making.{Makeable}
use Rattle.layout.specs.declared.Fault.TheVariants.{Length}
use Rattle.descriptor.specs.declared.fault.Fault.{Fault}
use Rattle.descriptor.specs.declared.fault.Fault.TheVariants.{Layout}
use Rattle.descriptor.specs.Opening.{refused, opened, unpadding, concluded, parts_opening, frame_opening_by, opening_at}
use Rattle.descriptor.specs.Text.{given_to, text_of, text_length, data_of}
use Rattle.descriptor.specs.declared.making.Label.{Label}
use Rattle.descriptor.specs.declared.protection.Protection.{Protection}
use Rattle.descriptor.proofs.SealingText.{given-fits, text-short, length-sealed}
use Rattle.descriptor.proofs.Texts.{text-padded, text_in_clear, length-padded-text, length-text, text-units, octets-text}

-- the data come back out of the text
data_back_by : (z : Sizes) (xs : List ℕ) (b : Bool) → z.encrypts ≡ b → z.unit ≤ 16 → data_of z (text_of z xs) ≡ Some xs
data_back_by z xs true e u =
    ap (λ b. cond b (unpadded (text_of z xs)) (Some (text_of z xs))) e
    ∙ (ap unpadded (text-padded z xs e)
    ∙ unpadded-padded (least_pad z.unit (length xs)) xs (omega (arith, least_pad_at_most_15 z.unit (length xs) u)))
data_back_by z xs false e u = ap (λ b. cond b (unpadded (text_of z xs)) (Some (text_of z xs))) e ∙ ap Some (text_in_clear z xs e)

-- with encryption a text is never empty
some_text_by : (z : Sizes) (xs : List ℕ) (b : Bool) → z.encrypts ≡ b → (z.encrypts && eqb (text_length z (length xs)) 0) ≡ false
some_text_by z xs true e =
    and_right z.encrypts (eqb (text_length z (length xs)) 0) (ne_eqb _ _ (λ n. omega (arith, length-padded-text z xs e)))
some_text_by z xs false e = and_left z.encrypts (eqb (text_length z (length xs)) 0) e

module _ (m : Meaning) (p : Protection) (l : Label) (z : Sizes) (vector xs : List ℕ) (out room : ℕ)
    (undoes : OpeningUndoesSealing m) (adds : SealingAddsTheCheckValue m)
    (served : m.serves p.triple ≡ Some z) (bounded : Bounded p.triple z)
    (fits : Makeable p l.form z (length vector) (length xs) out room) (bytes : AllBytes p vector xs) where
  abbrev given : Given
  given = given_to p (head_of l.sai l.sqn) vector

  abbrev sealed : List ℕ
  sealed = m.sealed p.triple given (text_of z xs)

  given-lengths : Lengths p.triple z given
  given-lengths = given-fits m p l.form z l.sai l.sqn vector xs out room served bounded fits

  text_is_short : text_length z (length xs) < 2 ^ 32
  text_is_short = text-short m p l.form z l.sai l.sqn vector xs out room served bounded fits

  sealed-long : length sealed ≡ text_length z (length xs) + z.check
  sealed-long = length-sealed m p l.form z l.sai l.sqn vector xs out room served bounded fits adds

  text_may_be_sealed : Text z (text_of z xs)
  text_may_be_sealed = record {
    bytes = octets-text z xs bounded.unit bytes.data_bytes;
    fits = ap (text_fits z) (length-text z xs) ∙ text-fits z (text_length z (length xs)) (text-units z xs p.triple bounded) text_is_short;
  }

  all_served : Served m p.triple given
  all_served = record {
    sizes = z;
    told = served;
    fitting = record {
      lengths = lengths-fit p.triple z given given-lengths;
      key = bytes.key;
      salt = bytes.salt;
      integrity = bytes.integrity;
      head = All-append (λ n. n < 256) (big_endian 4 l.sai) (big_endian 8 l.sqn) (octets-big_endian 4 l.sai) (octets-big_endian 8 l.sqn);
      vector = bytes.vector_bytes;
    };
  }

  -- the suite opens what it sealed
  suite_opens : (s buffer work : List ℕ) → s ≡ sealed
      → text_length z (length xs) ≤ length buffer → 240 ≤ length work
      → suite.opening m p.triple given s buffer work ≡ Ok (text_of z xs)
  unfolding all_served
  suite_opens s buffer work is big enough =
      let n : length s ≡ text_length z (length xs) + z.check = ap length is ∙ sealed-long in
      let less : length s - z.check ≡ text_length z (length xs) = omega arith in
      let o : Openable p.triple z given (length s) (length buffer) (length work) = record {
        lengths = given-lengths;
        check = omega arith;
        units = ap (λ k. k % z.unit) less ∙ text-units z xs p.triple bounded;
        short = subst (λ k. k < 2 ^ 32) (sym less) text_is_short;
        room = omega arith;
        work_bytes = enough;
      } in
      opening-served m p.triple z given served s buffer work
      (opening-fits p.triple z given (length s) (length buffer) (length work) o)
      ∙ (ap (λ y. ok_or (m.opened p.triple given y) Mismatch) is
      ∙ ap (λ r. ok_or r Mismatch) (undoes p.triple given all_served (text_of z xs) text_may_be_sealed))

  abbrev d : List ℕ
  d = descriptor l.form l.sai l.sqn vector sealed

  module _ (sai-fits : l.sai < 2 ^ 32) (sqn-fits : l.sqn < 2 ^ 64) (pre post buffer work : List ℕ)
      (big : length (pre ++ (d ++ post)) ≤ length buffer) (enough : 240 ≤ length work) where
    abbrev list : List ℕ
    list = pre ++ (d ++ post)

    abbrev frame : Frame
    frame = framing.frame_for l.form (length pre) l.sai l.sqn vector sealed

    length-d : length d ≡ lead l.form + 12 + length vector + length sealed
    length-d = framing.length-descriptor l.form l.sai l.sqn vector sealed

    length-list : length list ≡ length pre + (length d + length post)
    length-list = length-append pre (d ++ post) ∙ ap (λ n. length pre + n) (length-append d post)

    is_framed : framed list (length pre) (span_of l.form (length d)) ≡ Ok frame
    is_framed =
        framing.framed-descriptor l.form l.sai l.sqn vector sealed pre post list refl sai-fits sqn-fits
        (omega (arith, length-d, sealed-long, fits.short, fits.vector))

    protected_long : length sealed - z.check ≡ text_length z (length xs)
    protected_long = omega (arith, sealed-long)

    is_parted : parted frame z.vector z.check z.unit z.encrypts ≡ Ok (parts_at frame z.vector z.check)
    is_parted =
        let u : max z.unit 1 ≡ z.unit = omega (arith, bounded.some_unit) in
        let whole : (length sealed - z.check) % max z.unit 1 ≡ 0 =
        ap (λ k. (length sealed - z.check) % k) u ∙ (ap (λ k. k % z.unit) protected_long ∙ text-units z xs p.triple bounded) in
        let some : (z.encrypts && eqb (length sealed - z.check) 0) ≡ false =
        ap (λ k. z.encrypts && eqb k 0) protected_long ∙ some_text_by z xs z.encrypts refl in
        let at_vector = framing.parted-descriptor l.form l.sai l.sqn vector sealed pre post list refl z.check frame refl z.unit z.encrypts
        (omega (arith, sealed-long)) whole some in
        subst (λ k. parted frame k z.check z.unit z.encrypts ≡ Ok (parts_at frame k z.check)) fits.vector at_vector

    parts_open : parts_opening m p list buffer work z frame (Ok (parts_at frame z.vector z.check)) ≡ opened xs (text_length z (length xs))
    parts_open =
        let at = parts_at frame z.vector z.check in
        let e : at.check - at.protected ≡ text_length z (length xs) = omega (arith, length-d, sealed-long, fits.vector) in
        let head : between frame.head at.vector list ≡ head_of l.sai l.sqn =
        framing.head-cut l.form l.sai l.sqn vector sealed pre post list refl z.check frame refl in
        let vec : between at.vector at.protected list ≡ vector =
        subst (λ k. between (parts_at frame k z.check).vector (parts_at frame k z.check).protected list ≡ vector) fits.vector
        (framing.vector-cut l.form l.sai l.sqn vector sealed pre post list refl z.check frame refl) in
        let y : between at.protected at.end list ≡ sealed =
        subst (λ k. between (parts_at frame k z.check).protected (parts_at frame k z.check).end list ≡ sealed) fits.vector
        (framing.sealed-cut l.form l.sai l.sqn vector sealed pre post list refl z.check frame refl) in
        let opens : suite.opening m p.triple (given_to p (between frame.head at.vector list) (between at.vector at.protected list)) (between at.protected at.end list) buffer work ≡ Ok (text_of z xs) =
        ap (λ h. suite.opening m p.triple (given_to p h (between at.vector at.protected list)) (between at.protected at.end list) buffer work) head
        ∙ (ap (λ v. suite.opening m p.triple (given_to p (head_of l.sai l.sqn) v) (between at.protected at.end list) buffer work) vec
        ∙ suite_opens (between at.protected at.end list) buffer work y (omega (arith, length-list, length-d, sealed-long)) enough) in
        ap (concluded z (at.check - at.protected)) opens
        ∙ (ap (λ o. unpadding o (at.check - at.protected)) (data_back_by z xs z.encrypts refl bounded.unit) ∙ ap (opened xs) e)

    pub opens_in : OpensIn m p l xs d pre post buffer work
    opens_in = record {
      frame = frame;
      framed_there = is_framed;
      own_sai = refl;
      own_sqn = refl;
      sizes = z;
      told = served;
      opens =
          ap (opening_at m p list buffer work) is_framed
          ∙ (ap (λ o. frame_opening_by m p list buffer work o frame) served
          ∙ (ap (λ b. cond b (refused (Layout Length)) (parts_opening m p list buffer work z frame (parted frame z.vector z.check z.unit z.encrypts)))
          (le-ltb (length list) frame.end (omega (arith, length-list)))
          ∙ (ap (parts_opening m p list buffer work z frame) is_parted ∙ parts_open)));
    }

  -- and so the first bytes of the output, as many as were answered
  pub opens_to : (sai-fits : l.sai < 2 ^ 32) (sqn-fits : l.sqn < 2 ^ 64) (r : Result ℕ Fault) (old after : List ℕ)
      → r ≡ Ok (length d) → after ≡ over d old → length d ≤ length old → IfOk r (λ n. OpensTo m p l xs (take n after))
  opens_to sai-fits sqn-fits r old after answered is room =
      let front : take (length d) after ≡ d =
      ap (take (length d)) (is ∙ over-fits d old room) ∙ take_at d (drop (length d) old) (length d) refl in
      subst (λ (q : Result ℕ Fault). IfOk q (λ n. OpensTo m p l xs (take n after))) (sym answered)
      (subst (OpensTo m p l xs) (sym front) (λ pre post buffer work big enough. opens_in sai-fits sqn-fits pre post buffer work big enough))
