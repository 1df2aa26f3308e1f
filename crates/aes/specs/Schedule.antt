-- The key expansion of FIPS 197 (section 5.2). A word is four bytes; Nk is the number of words of the key.
--   scheduled n        the length of the schedule of a key of n bytes, where such keys are taken: 16 and 32
--   word w i           the word at place i of the schedule w
--   rot_word t         the bytes of the word t shifted left by one place, round its end
--   sub_word t         each byte of the word t replaced by the S-box
--   rcon_table         the round constants, from the first on
--   rcon j             the word of the round constant j, counted from 1
--   changed nk t i     what is added to an earlier word to give the word i, t being the word before it
--   next_word nk w i   the word i, from the words w before it
--   grown nk n key     the key's words and the n words after them
--   expanded key       the schedule of a key: 4 * (Nk + 7) words
use Rattle.std.specs.Prelude.{ℕ, zero, suc, ◌+◌, ◌-◌, ◌*◌, ◌/◌, ◌%◌, cond, ◌&&◌, List, [], ◌∷◌, ◌++◌, map, length, take, drop, Some, None, Option, ◌==◌, nat_lt, slice_index}
use Rattle.block.specs.Xor.{xored}
use Rattle.fips197.specs.Boxes.{s_box}

abbrev pub scheduled : ℕ → Option ℕ
scheduled n = cond (n == 16) (Some 176) (cond (n == 32) (Some 240) None)

unfoldable pub word : List ℕ → ℕ → List ℕ
word w i = take 4 (drop (4 * i) w)

abbrev pub rot_word : List ℕ → List ℕ
rot_word t = drop 1 t ++ take 1 t

abbrev pub sub_word : List ℕ → List ℕ
sub_word t = map s_box t

abbrev pub rcon_table : List ℕ
rcon_table = 0x01 ∷ 0x02 ∷ 0x04 ∷ 0x08 ∷ 0x10 ∷ 0x20 ∷ 0x40 ∷ 0x80 ∷ 0x1b ∷ 0x36 ∷ []

abbrev pub rcon : ℕ → List ℕ
rcon j = slice_index rcon_table (j - 1) ∷ 0 ∷ 0 ∷ 0 ∷ []

unfoldable pub changed : ℕ → List ℕ → ℕ → List ℕ
changed nk t i =
    cond (i % nk == 0) (xored (sub_word (rot_word t)) (rcon (i / nk)))
    (cond (nat_lt 6 nk && i % nk == 4) (sub_word t) t)

unfoldable pub next_word : ℕ → List ℕ → ℕ → List ℕ
next_word nk w i = xored (word w (i - nk)) (changed nk (word w (i - 1)) i)

unfoldable pub grown : ℕ → ℕ → List ℕ → List ℕ
grown nk zero key = key
grown nk (suc n) key = let w = grown nk n key in w ++ next_word nk w (nk + n)

unfoldable pub expanded : List ℕ → List ℕ
expanded key = let nk = length key / 4 in grown nk (4 * (nk + 7) - nk) key
