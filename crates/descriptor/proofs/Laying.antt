-- A descriptor laid out in a buffer: front, then text, then what it seals to in the text's place. Assumes nothing.
use Rattle.std.proofs.Common.{◌≡◌, ℕ, ◌+◌, ◌-◌, ◌≤◌, List, [], ◌∷◌, ◌++◌, length, take, drop, sym, ap, ◌∙◌, append_assoc, arith}
use borrow.Rule.Slice.PartMut.{put_mid}
use Rattle.std.proofs.lemmas.List.{length-append, length-drop, length-take-le, take_at, drop_at, drop-drop, take-take}
use Rattle.octets.specs.Numbers.{big_endian}
use Rattle.octets.specs.Octets.{over}
use Rattle.octets.proofs.Octets.{over-fits}
use Rattle.layout.specs.Layout.{descriptor, head_of, lead}
use Rattle.layout.specs.declared.Form.{Form}
use Rattle.layout.specs.declared.Form.TheVariants.{Long, Short}
use Rattle.descriptor.specs.Making.{front, lead_of}
use Rattle.descriptor.specs.declared.making.Label.{Label}
use Rattle.descriptor.proofs.Fronts.{length-head_of}

module _ (f t s out out₁ out₂ : List ℕ) (start e c a : ℕ)
    (f-long : length f ≡ start) (t-long : length t ≡ e) (s-long : length s ≡ e + c) (room : start + e + c ≤ length out)
    (a-is : a ≡ e) (first : out₁ ≡ over f out) (second : out₂ ≡ put_mid start a out₁ t) where
  out₁_is : out₁ ≡ f ++ drop start out
  out₁_is = first ∙ (over-fits f out (omega arith) ∙ ap (λ n. f ++ drop n out) f-long)

  out₂_is : out₂ ≡ f ++ (t ++ drop e (drop start out))
  out₂_is =
      second
      ∙ (ap (λ w. take start w ++ (t ++ drop a (drop start w))) out₁_is
      ∙ (ap (λ w. w ++ (t ++ drop a (drop start (f ++ drop start out)))) (take_at f (drop start out) start f-long)
      ∙ (ap (λ w. f ++ (t ++ drop a w)) (drop_at f (drop start out) start f-long) ∙ ap (λ n. f ++ (t ++ drop n (drop start out))) a-is)))

  behind_front : drop start out₂ ≡ t ++ drop e (drop start out)
  behind_front = ap (drop start) out₂_is ∙ drop_at f (t ++ drop e (drop start out)) start f-long

  -- the text stands at the start of the part that is sealed
  pub text_there : (b : ℕ) → e ≤ b → take e (take b (drop start out₂)) ≡ t
  text_there b le =
      take-take e b (drop start out₂) le ∙ (ap (take e) behind_front ∙ take_at t (drop e (drop start out)) e t-long)

  pub part_long : (b : ℕ) → b ≡ e + c → length (take b (drop start out₂)) ≡ e + c
  part_long b b-is =
      let n : e + c ≤ length (drop start out₂) =
      rw behind_front (omega (arith, length-append t (drop e (drop start out)), length-drop e (drop start out), length-drop start out)) in
      ap (λ k. length (take k (drop start out₂))) b-is ∙ length-take-le (e + c) (drop start out₂) n

  -- what it seals to stands in its place
  pub sealed_there : (b : ℕ) → b ≡ e + c → put_mid start b out₂ s ≡ over (f ++ s) out
  sealed_there b b-is =
      let tail : drop b (drop start out₂) ≡ drop (length (f ++ s)) out =
      ap (λ n. drop n (drop start out₂)) b-is
      ∙ (ap (drop (e + c)) behind_front
      ∙ (sym (drop-drop c e (t ++ drop e (drop start out)))
      ∙ (ap (drop c) (drop_at t (drop e (drop start out)) e t-long)
      ∙ (drop-drop c e (drop start out)
      ∙ (drop-drop (e + c) start out ∙ ap (λ n. drop n out) (omega (arith, length-append f s))))))) in
      ap (λ w. take start w ++ (s ++ drop b (drop start out₂))) out₂_is
      ∙ (ap (λ w. w ++ (s ++ drop b (drop start out₂))) (take_at f (t ++ drop e (drop start out)) start f-long)
      ∙ (ap (λ w. f ++ (s ++ w)) tail
      ∙ (sym (append_assoc f s (drop (length (f ++ s)) out)) ∙ sym (over-fits (f ++ s) out (omega (arith, length-append f s))))))

in_a_row : (a b c v s : List ℕ) → ((((a ++ (0 ∷ 0 ∷ [])) ++ b) ++ c) ++ v) ++ s ≡ a ++ (0 ∷ 0 ∷ ((b ++ c) ++ (v ++ s)))
in_a_row a b c v s = simp append_assoc

in_a_row_short : (b c v s : List ℕ) → ((b ++ c) ++ v) ++ s ≡ (b ++ c) ++ (v ++ s)
in_a_row_short b c v s = append_assoc (b ++ c) v s

front_by : (form : Form) (sai sqn total : ℕ) (vector s : List ℕ) → total ≡ lead form + 12 + length vector + length s
    → (((lead_of form total ++ big_endian 4 sai) ++ big_endian 8 sqn) ++ vector) ++ s ≡ descriptor form sai sqn vector s
front_by Long sai sqn total vector s e =
    let content = head_of sai sqn ++ (vector ++ s) in
    let n : total - 2 ≡ 2 + length content =
    omega (arith, length-append (head_of sai sqn) (vector ++ s), length-append vector s, length-head_of sai sqn) in
    in_a_row (big_endian 2 (total - 2)) (big_endian 4 sai) (big_endian 8 sqn) vector s ∙ ap (λ m. big_endian 2 m ++ (0 ∷ 0 ∷ content)) n
front_by Short sai sqn total vector s e = in_a_row_short (big_endian 4 sai) (big_endian 8 sqn) vector s

-- front and sealed part are the descriptor
pub front_and_sealed : (l : Label) (total : ℕ) (vector s : List ℕ) → total ≡ lead l.form + 12 + length vector + length s
    → front l total vector ++ s ≡ descriptor l.form l.sai l.sqn vector s
front_and_sealed l total vector s e = front_by l.form l.sai l.sqn total vector s e
