-- What is sealed in a descriptor, and under what.
--   given_to p head vector  what the suite takes under a protection p
--   text_of z xs            the text that is sealed of the data xs: padded where the suite encrypts
--   text_length z n         its length for n data bytes
--   data_of z text          the data of a text that was opened; none where its padding is wrong
--   TextOf z xs text        text is the data xs, with a padding that is allowed on arrival where the suite encrypts
use Rattle.std.specs.Prelude.{◌≡◌, ℕ, cond, List, length, Some, Option}
use Rattle.padding.specs.Padding.{padded, unpadded, least_pad, padded_length, Padded}
use Rattle.suite.specs.Meaning.{Given}
use Rattle.suite.specs.declared.Sizes.{Sizes}
use Rattle.descriptor.specs.declared.protection.Protection.{Protection}

abbrev pub given_to : Protection → List ℕ → List ℕ → Given
given_to p head vector = record {
  key = p.key.now;
  salt = p.salt.now;
  integrity = p.integrity.now;
  head = head;
  vector = vector;
}

abbrev pub text_of : Sizes → List ℕ → List ℕ
text_of z xs = cond z.encrypts (padded (least_pad z.unit (length xs)) xs) xs

abbrev pub text_length : Sizes → ℕ → ℕ
text_length z n = cond z.encrypts (padded_length z.unit n) n

abbrev pub data_of : Sizes → List ℕ → Option (List ℕ)
data_of z text = cond z.encrypts (unpadded text) (Some text)

-- without encryption the text is the data
abbrev pub TextOf : Sizes → List ℕ → List ℕ → Type 0
TextOf z xs text = cond z.encrypts ((p : ℕ) × Padded xs p text) (text ≡ xs)
