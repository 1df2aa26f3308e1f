-- The padding of a text that is encrypted (ESP-SCSI): the data, then the padding bytes 1, 2, .. p, then PAD LENGTH, a byte that holds p,
-- then MUST BE ZERO, a zero byte.
--   ramp p             the padding bytes 1, 2, .. p
--   trailer p          what follows the data: padding bytes, PAD LENGTH, MUST BE ZERO
--   padded p xs        the text that p padding bytes make of the data xs
--   Padded xs p text   text is xs with p padding bytes, which an arriving text may have from 0 to 255
--   Fills u n p        n data bytes with p padding bytes fill whole units of u bytes
--   LeastFill u n p    they do, and with fewer padding bytes they do not
--   pad_to u n         that number of padding bytes, where u is not 0
--   least_pad u n      the same, with a unit of 0 taken as 1; building uses it
--   padded_length u n  the text's length then
--   trailed n text     the buffer text once a trailer fills it from place n to its end; unchanged where no trailer has that length
--   pad_length text    what PAD LENGTH says: the last byte but one
--   data_end text      where the trailer of that many padding bytes begins
--   well_padded text   whether that trailer is there, and PAD LENGTH is a byte
--   data_length text   the length of the data of text; none where text is not well padded
--   cut n text         the first n bytes of text; none where n is none
--   unpadded text      the data of text; none where text is not well padded
--   Lawful             unpadding and padding are inverse to each other
use Rattle.std.specs.Prelude.{◌≡◌, ℕ, ◌+◌, ◌-◌, ◌%◌, ◌≤◌, max, Bool, cond, ◌&&◌, List, [], ◌∷◌, ◌++◌, length, take, drop, Some, None, Option, nat_le, slice_index}
use Rattle.std.specs.List.{range_with_len}
use Rattle.octets.specs.Octets.{same}

abbrev pub ramp : ℕ → List ℕ
ramp p = range_with_len 1 p

abbrev pub trailer : ℕ → List ℕ
trailer p = ramp p ++ (p ∷ 0 ∷ [])

abbrev pub padded : ℕ → List ℕ → List ℕ
padded p xs = xs ++ trailer p

pub record Padded (xs : List ℕ) (p : ℕ) (text : List ℕ) : Type 0 where
  pub allowed : p ≤ 255
  pub is : text ≡ padded p xs

abbrev pub Fills : ℕ → ℕ → ℕ → Type 0
Fills u n p = (n + p + 2) % u ≡ 0

pub record LeastFill (u n p : ℕ) : Type 0 where
  pub fills : Fills u n p
  pub least : (q : ℕ) → Fills u n q → p ≤ q

abbrev pub pad_to : ℕ → ℕ → ℕ
pad_to u n = (u - (n + 2) % u) % u

abbrev pub least_pad : ℕ → ℕ → ℕ
least_pad u n = pad_to (max u 1) n

abbrev pub padded_length : ℕ → ℕ → ℕ
padded_length u n = n + least_pad u n + 2

abbrev pub trailed : ℕ → List ℕ → List ℕ
trailed n text =
    cond (nat_le (n + 2) (length text) && nat_le (length text) (n + 2 + 255)) (take n text ++ trailer (length text - (n + 2))) text

abbrev pub pad_length : List ℕ → ℕ
pad_length text = slice_index text (length text - 2)

abbrev pub data_end : List ℕ → ℕ
data_end text = length text - (pad_length text + 2)

abbrev pub well_padded : List ℕ → Bool
well_padded text =
    nat_le (pad_length text) 255 && (nat_le (pad_length text + 2) (length text) && same (drop (data_end text) text) (trailer (pad_length text)))

abbrev pub data_length : List ℕ → Option ℕ
data_length text = cond (well_padded text) (Some (data_end text)) None

abbrev pub cut : Option ℕ → List ℕ → Option (List ℕ)
cut (Some n) text = Some (take n text)
cut None text = None

abbrev pub unpadded : List ℕ → Option (List ℕ)
unpadded text = cut (data_length text) text

pub record Lawful : Type 0 where
  -- unpadding undoes padding
  pub undoes_padding : (xs text : List ℕ) (p : ℕ) → Padded xs p text → unpadded text ≡ Some xs
  -- and nothing else
  pub undoes_only_padding : (xs text : List ℕ) → unpadded text ≡ Some xs → (p : ℕ) × Padded xs p text
  -- no text is the padding of two data, or of the same data with two lengths
  pub padded_one_way : (xs ys text : List ℕ) (p q : ℕ) → Padded xs p text → Padded ys q text → (xs ≡ ys) × (p ≡ q)
