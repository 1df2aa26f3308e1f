-- Whatever arrives: what a frame tells of the list that it was read from.
use Rattle.std.proofs.Common.{◌≡◌, ℕ, ◌+◌, ◌-◌, ◌<◌, ◌≤◌, false, ◌||◌, ltb, List, ◌++◌, length, take, drop, Ok, sym, ap, ◌∙◌, subst, arith, take-add}
use Rattle.std.specs.List.{between}
use Rattle.std.proofs.ByRecursion.{All-drop, All-take}
use Rattle.std.proofs.lemmas.List.{drop-drop, length-drop, length-take-le}
use Rattle.std.proofs.lemmas.Bool.{ltb-false, or_parts}
use Rattle.octets.specs.Numbers.{big_endian, number}
use Rattle.octets.specs.Octets.{Octets}
use Rattle.octets.proofs.BigEndian.{big_endian-number}
use Rattle.layout.specs.declared.form.Span.{Span}
use Rattle.layout.specs.declared.frame.Frame.{Frame}
use Rattle.layout.specs.Layout.{form_of, head_of, lead}
use Rattle.layout.specs.Frame.{Within, frame_at, frame_tests, framed, number_at, reach, sqn_end}
use Rattle.layout.proofs.Refusals.{Passed, passed_from_ok}

-- the bytes at a place, from the number that they write
bytes_at : (k : ℕ) (list : List ℕ) (at : ℕ) → Octets list → at + k ≤ length list → big_endian k (number_at k list at) ≡ take k (drop at list)
bytes_at k list at h fits =
    let part : List ℕ = take k (drop at list) in
    let whole : length part ≡ k = length-take-le k (drop at list) (omega (arith, length-drop at list)) in
    let byte : ℕ → Type 0 = λ x. x < 256 in
    subst (λ n. big_endian n (number part) ≡ part) whole (big_endian-number part (All-take byte k (drop at list) (All-drop byte at list h)))

both-same : {a b c d : List ℕ} → a ≡ b → c ≡ d → a ++ c ≡ b ++ d
both-same e f = cc

-- SAI and SQN as they stand in the list are the head
head_bytes : (list : List ℕ) (at : ℕ) → Octets list → at + 12 ≤ length list → between at (at + 12) list ≡ head_of (number_at 4 list at) (number_at 8 list (at + 4))
head_bytes list at h fits =
    let a = bytes_at 4 list at h (omega arith) in
    let b = bytes_at 8 list (at + 4) h (omega arith) in
    let twelve : at + 12 - at ≡ 12 = omega arith in
    ap (λ n. take n (drop at list)) twelve ∙ take-add 4 8 (drop at list)
    ∙ ap (λ l. take 4 (drop at list) ++ take 8 l) (drop-drop 4 at list) ∙ sym (both-same a b)

fits-length : (r m n k : ℕ) → (ltb r m || ltb n k) ≡ false → (m ≤ r) × (k ≤ n)
fits-length r m n k e = let h = or_parts (ltb r m) (ltb n k) e in (ltb-false r m h.0, ltb-false n k h.1)

module _ (list : List ℕ) (place : ℕ) (span : Span) (frame : Frame) (is : framed list place span ≡ Ok frame) where
  passed : Passed (frame_tests list place span) × (frame ≡ frame_at list place span)
  passed = passed_from_ok (frame_tests list place span) (frame_at list place span) frame is

  pub frame_is : frame ≡ frame_at list place span
  frame_is = passed.1

  pub frame-within : Within list frame
  frame-within =
      let h = fits-length (reach list place span) (sqn_end span) (length list) (place + reach list place span) passed.0.1.0 in
      rw frame_is (record { sqn_before_end = omega arith; end_in_list = h.1 })

  pub head-stands : Octets list → between frame.head (frame.head + 12) list ≡ head_of frame.sai frame.sqn
  head-stands h =
      let room = ltb-false (length list) (place + sqn_end span) passed.0.0 in
      subst (λ (f : Frame). between f.head (f.head + 12) list ≡ head_of f.sai f.sqn) (sym frame_is)
      (head_bytes list (place + lead (form_of span)) h (omega arith))
