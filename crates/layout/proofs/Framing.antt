-- A descriptor that stands somewhere in a list is framed as it was made, and its parts are cut out again.
use Rattle.std.proofs.Common.{◌≡◌, ℕ, ◌+◌, ◌-◌, ◌%◌, ◌^◌, ◌<◌, ◌≤◌, max, Bool, false, ◌&&◌, eqb, List, [], ◌∷◌, ◌++◌, length, take, drop, Ok, sym, refl, ap, ◌∙◌, add-zero, arith}
use Rattle.std.specs.List.{between}
use Rattle.std.proofs.lemmas.List.{append_assoc, drop_at, drop-drop, length-append, take_at}
use Rattle.std.proofs.lemmas.Bool.{eq-eqb, le-ltb}
use Rattle.octets.specs.Numbers.{big_endian, number}
use Rattle.octets.proofs.BigEndian.{number-big_endian}
use Rattle.layout.specs.declared.form.Form.{Form}
use Rattle.layout.specs.declared.form.Form.TheVariants.{Long, Short}
use Rattle.layout.specs.declared.form.Span.{Span}
use Rattle.layout.specs.declared.frame.Frame.{Frame}
use Rattle.layout.specs.Layout.{content, descriptor, form_of, head_of, lead, span_of}
use Rattle.layout.specs.Frame.{framed, number_at, part_tests, parts_at, parted, protected_length, reach}
use Rattle.layout.proofs.Refusals.{judged-passed}

-- what stands after a, where a stands at the place n
rest_at : (xs a b : List ℕ) (n m : ℕ) → drop n xs ≡ a ++ b → length a ≡ m → drop (n + m) xs ≡ b
rest_at xs a b n m e h = sym (drop-drop m n xs) ∙ ap (drop m) e ∙ drop_at a b m h

part_at : (xs a b : List ℕ) (n : ℕ) → drop n xs ≡ a ++ b → take (length a) (drop n xs) ≡ a
part_at xs a b n e = ap (take (length a)) e ∙ take_at a b (length a) refl

cut_at : (xs a b : List ℕ) (i j : ℕ) → j ≡ i + length a → drop i xs ≡ a ++ b → between i j xs ≡ a
cut_at xs a b i j h e = ap (λ n. take n (drop i xs)) (omega arith) ∙ part_at xs a b i e

-- the frame of a descriptor of len bytes at a place
abbrev pub frame_of : Form → ℕ → ℕ → ℕ → ℕ → Frame
frame_of form place len sai sqn = record { form = form; head = place + lead form; end = place + len; sai = sai; sqn = sqn }

-- the frame that a descriptor with this content has at a place
abbrev pub frame_for : Form → ℕ → ℕ → ℕ → List ℕ → List ℕ → Frame
frame_for form place sai sqn vector sealed = frame_of form place (length (descriptor form sai sqn vector sealed)) sai sqn

-- no test fits, and each field is read as it stands
framed_as : (list : List ℕ) (place : ℕ) (span : Span) (form : Form) (len sai sqn : ℕ) → form_of span ≡ form → reach list place span ≡ len → lead form + 12 ≤ len → place + len ≤ length list → number_at 4 list (place + lead form) ≡ sai → number_at 8 list (place + lead form + 4) ≡ sqn → framed list place span ≡ Ok (frame_of form place len sai sqn)
framed_as list place span form len sai sqn f r low high a b =
    rw (f, r, a, b, le-ltb (length list) (place + (lead form + 12)) (omega arith), le-ltb len (lead form + 12) low, le-ltb (length list) (place + len) high)

-- no test fits; e bytes are protected
pub parted_as : (frame : Frame) (s c u e : ℕ) (encrypts : Bool) → frame.end ≡ frame.head + 12 + s + c + e → e % max u 1 ≡ 0 → (encrypts && eqb e 0) ≡ false → parted frame s c u encrypts ≡ Ok (parts_at frame s c)
parted_as frame s c u e encrypts room whole some =
    let is : protected_length frame s c ≡ e = omega arith in
    let fits = le-ltb frame.end (frame.head + 12 + s + c) (omega arith) in
    judged-passed (part_tests frame s c u encrypts) (parts_at frame s c)
    (fits, (rw (is, eq-eqb (e % max u 1) 0 whole), (rw is some, tt)))

length-content : (sai sqn : ℕ) (vector sealed : List ℕ) → length (content sai sqn vector sealed) ≡ 12 + length vector + length sealed
length-content sai sqn vector sealed = simp length-append (omega arith)

pub length-descriptor : (form : Form) (sai sqn : ℕ) (vector sealed : List ℕ) → length (descriptor form sai sqn vector sealed) ≡ lead form + 12 + length vector + length sealed
length-descriptor Long sai sqn vector sealed = omega (arith, length-content sai sqn vector sealed)
length-descriptor Short sai sqn vector sealed = omega (arith, length-content sai sqn vector sealed)

-- what follows the first four bytes, and the parts one by one
after-lead : (pre l c post : List ℕ) → length l ≡ 2 → drop (length pre + 4) (pre ++ ((l ++ (0 ∷ 0 ∷ c)) ++ post)) ≡ c ++ post
after-lead pre l c post h =
    let grouped : (pre ++ (l ++ (0 ∷ 0 ∷ []))) ++ (c ++ post) ≡ pre ++ ((l ++ (0 ∷ 0 ∷ c)) ++ post) = simp append_assoc in
    ap (drop (length pre + 4)) (sym grouped) ∙ drop_at (pre ++ (l ++ (0 ∷ 0 ∷ []))) (c ++ post) (length pre + 4) (simp length-append (omega arith))

one_by_one : (a b v s post : List ℕ) → ((a ++ b) ++ (v ++ s)) ++ post ≡ a ++ (b ++ (v ++ (s ++ post)))
one_by_one a b v s post = simp append_assoc

from_sai : (form : Form) (sai sqn : ℕ) (vector sealed pre post : List ℕ) → drop (length pre + lead form) (pre ++ (descriptor form sai sqn vector sealed ++ post)) ≡ content sai sqn vector sealed ++ post
from_sai Long sai sqn vector sealed pre post =
    after-lead pre (big_endian 2 (2 + length (content sai sqn vector sealed))) (content sai sqn vector sealed) post refl
from_sai Short sai sqn vector sealed pre post =
    drop_at pre (content sai sqn vector sealed ++ post) (length pre + 0) (sym (add-zero (length pre)))

form_of_span : (form : Form) (len : ℕ) → form_of (span_of form len) ≡ form
form_of_span Long len = refl
form_of_span Short len = refl

-- DESCRIPTOR LENGTH, at the start of the long form
first_at : (pre l r post : List ℕ) → take (length l) (drop (length pre) (pre ++ ((l ++ r) ++ post))) ≡ l
first_at pre l r post =
    ap (take (length l)) (drop_at pre _ (length pre) refl ∙ append_assoc l r post) ∙ take_at l (r ++ post) (length l) refl

reach_of : (form : Form) (sai sqn : ℕ) (vector sealed pre post : List ℕ) → length (descriptor form sai sqn vector sealed) ≤ 65537 → reach (pre ++ (descriptor form sai sqn vector sealed ++ post)) (length pre) (span_of form (length (descriptor form sai sqn vector sealed))) ≡ length (descriptor form sai sqn vector sealed)
reach_of Long sai sqn vector sealed pre post h =
    let n : ℕ = 2 + length (content sai sqn vector sealed) in
    ap (λ m. 2 + m) (ap number (first_at pre (big_endian 2 n) (0 ∷ 0 ∷ content sai sqn vector sealed) post) ∙ number-big_endian 2 n (omega arith)) ∙ omega arith
reach_of Short sai sqn vector sealed pre post h = refl

-- a descriptor that stands in a list, before `post` and after `pre`
module _ (form : Form) (sai sqn : ℕ) (vector sealed pre post list : List ℕ) (stands : list ≡ pre ++ (descriptor form sai sqn vector sealed ++ post)) where
  at_sai : drop (length pre + lead form) list ≡ big_endian 4 sai ++ (big_endian 8 sqn ++ (vector ++ (sealed ++ post)))
  at_sai =
      ap (drop (length pre + lead form)) stands ∙ from_sai form sai sqn vector sealed pre post
      ∙ one_by_one (big_endian 4 sai) (big_endian 8 sqn) vector sealed post

  at_sqn : drop (length pre + lead form + 4) list ≡ big_endian 8 sqn ++ (vector ++ (sealed ++ post))
  at_sqn = rest_at list (big_endian 4 sai) _ (length pre + lead form) 4 at_sai refl

  at_vector : drop (length pre + lead form + 12) list ≡ vector ++ (sealed ++ post)
  at_vector =
      ap (λ n. drop n list) (omega arith) ∙ rest_at list (big_endian 8 sqn) _ (length pre + lead form + 4) 8 at_sqn refl

  at_sealed : drop (length pre + lead form + 12 + length vector) list ≡ sealed ++ post
  at_sealed = rest_at list vector _ (length pre + lead form + 12) (length vector) at_vector refl

  sai_read : sai < 2 ^ 32 → number_at 4 list (length pre + lead form) ≡ sai
  sai_read h = ap number (part_at list (big_endian 4 sai) _ _ at_sai) ∙ number-big_endian 4 sai h

  sqn_read : sqn < 2 ^ 64 → number_at 8 list (length pre + lead form + 4) ≡ sqn
  sqn_read h = ap number (part_at list (big_endian 8 sqn) _ _ at_sqn) ∙ number-big_endian 8 sqn h

  pub framed-descriptor : sai < 2 ^ 32 → sqn < 2 ^ 64 → length (descriptor form sai sqn vector sealed) ≤ 65537 → framed list (length pre) (span_of form (length (descriptor form sai sqn vector sealed))) ≡ Ok (frame_for form (length pre) sai sqn vector sealed)
  framed-descriptor a b h =
      let d : List ℕ = descriptor form sai sqn vector sealed in
      let room : length list ≡ length pre + (length d + length post) = ap length stands ∙ simp length-append in
      framed_as list (length pre) (span_of form (length d)) form (length d) sai sqn (form_of_span form (length d))
      (ap (λ l. reach l (length pre) (span_of form (length d))) stands ∙ reach_of form sai sqn vector sealed pre post h)
      (omega (arith, length-descriptor form sai sqn vector sealed)) (omega arith) (sai_read a) (sqn_read b)

  module _ (c : ℕ) (frame : Frame) (is : frame ≡ frame_for form (length pre) sai sqn vector sealed) where
    head_is : frame.head ≡ length pre + lead form
    head_is = ap (λ (f : Frame). f.head) is

    end_is : frame.end ≡ frame.head + 12 + length vector + length sealed
    end_is = omega (arith, ap (λ (f : Frame). f.end) is, head_is, length-descriptor form sai sqn vector sealed)

    pub parted-descriptor : (u : ℕ) (encrypts : Bool) → c ≤ length sealed → (length sealed - c) % max u 1 ≡ 0 → (encrypts && eqb (length sealed - c) 0) ≡ false → parted frame (length vector) c u encrypts ≡ Ok (parts_at frame (length vector) c)
    parted-descriptor u encrypts h whole some =
        parted_as frame (length vector) c u (length sealed - c) encrypts (omega (arith, end_is)) whole some

    -- what the code cuts out of the list by the places of the parts
    pub head-cut : between frame.head (parts_at frame (length vector) c).vector list ≡ head_of sai sqn
    head-cut = cut_at list (head_of sai sqn) (vector ++ (sealed ++ post)) frame.head (frame.head + 12) refl (rw head_is at_sai)

    pub vector-cut : between (parts_at frame (length vector) c).vector (parts_at frame (length vector) c).protected list ≡ vector
    vector-cut = cut_at list vector (sealed ++ post) (frame.head + 12) (frame.head + 12 + length vector) refl (rw head_is at_vector)

    pub sealed-cut : between (parts_at frame (length vector) c).protected (parts_at frame (length vector) c).end list ≡ sealed
    sealed-cut = cut_at list sealed post (frame.head + 12 + length vector) frame.end end_is (rw head_is at_sealed)
