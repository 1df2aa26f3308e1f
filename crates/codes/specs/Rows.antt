-- Looking up a row or a name in a table.
--   first_fit  the first row that passes a test, if one does
--   Name       a code with the characters of its name
--   name_of    the name that goes with a code, if one does
use Rattle.std.specs.Prelude.{ℕ, Bool, List, Option, nat_eq}
use Rattle.std.specs.List.{find}
use Rattle.std.specs.Option.{option_map}

abbrev pub first_fit : {Row : Type 0} → (Row → Bool) → List Row → Option Row
first_fit test rows = find test rows

pub record Name : Type 0 where
  pub code : ℕ
  pub name : List ℕ

abbrev pub name_of : List Name → ℕ → Option (List ℕ)
name_of names code = option_map (λ (n : Name). n.name) (first_fit (λ (n : Name). nat_eq n.code code) names)
