-- The transformations of the state, as FIPS 197 has them (sections 5.1 and 5.3). The state is 16 bytes, column by column.
--   at s r c           the byte of the state s in the row r and the column c, which stands at 4 * c + r
--   filled f           the state with the byte f r c in the row r and the column c
--   sub_bytes s        each byte replaced by the S-box
--   shift_rows s       the row r shifted left by r places, round its end
--   mixed a b c d      the first byte of the column a b c d once it is mixed: the sum of 02 a, 03 b, c and d
--   mix_by f s         each column a b c d replaced by f a b c d, f b c d a, f c d a b and f d a b c
--   mix_columns s      each column mixed
--   add_round_key k s  the round key k added by exclusive or
--   inv_sub_bytes, inv_shift_rows, inv_mixed, inv_mix_columns   the inverse transformations
use Rattle.std.specs.Prelude.{ℕ, ◌+◌, ◌-◌, ◌*◌, ◌/◌, ◌%◌, List, map, bit_xor, slice_index}
use Rattle.std.specs.List.{range_with_len}
use Rattle.block.specs.Xor.{xored}
use Rattle.fips197.specs.Field.{◌•◌}
use Rattle.fips197.specs.Boxes.{s_box, inv_s_box}

abbrev pub at : List ℕ → ℕ → ℕ → ℕ
at s r c = slice_index s (4 * c + r)

abbrev pub filled : (ℕ → ℕ → ℕ) → List ℕ
filled f = map (λ k. f (k % 4) (k / 4)) (range_with_len 0 16)

unfoldable pub sub_bytes : List ℕ → List ℕ
sub_bytes s = map s_box s

unfoldable pub inv_sub_bytes : List ℕ → List ℕ
inv_sub_bytes s = map inv_s_box s

unfoldable pub shift_rows : List ℕ → List ℕ
shift_rows s = filled (λ r c. at s r ((c + r) % 4))

unfoldable pub inv_shift_rows : List ℕ → List ℕ
inv_shift_rows s = filled (λ r c. at s r ((c + 4 - r) % 4))

abbrev pub mixed : (a b c d : ℕ) → ℕ
mixed a b c d = bit_xor (bit_xor (bit_xor (0x02 • a) (0x03 • b)) c) d

abbrev pub inv_mixed : (a b c d : ℕ) → ℕ
inv_mixed a b c d = bit_xor (bit_xor (bit_xor (0x0e • a) (0x0b • b)) (0x0d • c)) (0x09 • d)

abbrev pub mix_by : (ℕ → ℕ → ℕ → ℕ → ℕ) → List ℕ → List ℕ
mix_by f s = filled (λ r c. f (at s r c) (at s ((r + 1) % 4) c) (at s ((r + 2) % 4) c) (at s ((r + 3) % 4) c))

unfoldable pub mix_columns : List ℕ → List ℕ
mix_columns s = mix_by mixed s

unfoldable pub inv_mix_columns : List ℕ → List ℕ
inv_mix_columns s = mix_by inv_mixed s

unfoldable pub add_round_key : List ℕ → List ℕ → List ℕ
add_round_key k s = xored s k
