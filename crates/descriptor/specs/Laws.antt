-- The round trip of data through a descriptor.
--   SealingOf ..    the data are those of the one text that seals to a frame's protected part and check value
--   OpensTo ..      wherever the descriptor stands in a list, it opens to these data
use Rattle.std.specs.Prelude.{◌≡◌, ℕ, ◌≤◌, List, ◌++◌, length, Some, Ok}
use Rattle.std.specs.List.{between}
use Rattle.octets.specs.Octets.{Octets}
use Rattle.layout.specs.Frame.{framed, parts_at}
use Rattle.layout.specs.Layout.{span_of}
use Rattle.layout.specs.declared.Frame.{Frame}
use Rattle.suite.specs.Laws.{Text}
use Rattle.suite.specs.Meaning.{Given, Meaning}
use Rattle.suite.specs.declared.Sizes.{Sizes}
use Rattle.descriptor.specs.Opening.{opening, opened}
use Rattle.descriptor.specs.Text.{given_to, TextOf, text_length}
use Rattle.descriptor.specs.declared.making.Label.{Label}
use Rattle.descriptor.specs.declared.protection.Protection.{Protection}

-- keys, vector and data are bytes
pub record AllBytes (p : Protection) (vector xs : List ℕ) : Type 0 where
  pub key : Octets p.key.now
  pub salt : Octets p.salt.now
  pub integrity : Octets p.integrity.now
  pub vector_bytes : Octets vector
  pub data_bytes : Octets xs

-- what the suite takes, and what it opens, for the descriptor of a frame
abbrev pub given_in : Protection → List ℕ → Frame → Sizes → Given
given_in p list f z =
    given_to p (between f.head (parts_at f z.vector z.check).vector list)
    (between (parts_at f z.vector z.check).vector (parts_at f z.vector z.check).protected list)

abbrev pub sealed_in : List ℕ → Frame → Sizes → List ℕ
sealed_in list f z = between (parts_at f z.vector z.check).protected (parts_at f z.vector z.check).end list

-- the data xs, padded in an allowed way, seal to what stands in the list, and no other data do
pub record SealingOf (m : Meaning) (p : Protection) (list : List ℕ) (f : Frame) (xs : List ℕ) : Type 0 where
  pub sizes : Sizes
  pub told : m.serves p.triple ≡ Some sizes
  pub text : List ℕ
  pub text-fits : Text sizes text
  pub text_of_data : TextOf sizes xs text
  pub sealed : m.sealed p.triple (given_in p list f sizes) text ≡ sealed_in list f sizes
  pub no_other : (ys other : List ℕ) → Text sizes other → TextOf sizes ys other
      → m.sealed p.triple (given_in p list f sizes) other ≡ sealed_in list f sizes → ys ≡ xs

-- in a list, with a data buffer no shorter than it and a work area of 240 bytes, a descriptor d opens to the data xs
pub record OpensIn (m : Meaning) (p : Protection) (l : Label) (xs d pre post buffer work : List ℕ) : Type 0 where
  pub frame : Frame
  pub framed_there : framed (pre ++ (d ++ post)) (length pre) (span_of l.form (length d)) ≡ Ok frame
  pub own_sai : frame.sai ≡ l.sai
  pub own_sqn : frame.sqn ≡ l.sqn
  pub sizes : Sizes
  pub told : m.serves p.triple ≡ Some sizes
  pub opens : opening m p (pre ++ (d ++ post)) buffer work (length pre) (span_of l.form (length d)) ≡ opened xs (text_length sizes (length xs))

abbrev pub OpensTo : Meaning → Protection → Label → List ℕ → List ℕ → Type 0
OpensTo m p l xs d =
    (pre post buffer work : List ℕ) → length (pre ++ (d ++ post)) ≤ length buffer → 240 ≤ length work → OpensIn m p l xs d pre post buffer work
