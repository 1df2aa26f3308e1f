-- The cipher and the inverse cipher of FIPS 197 (sections 5.1 and 5.3), under a schedule: the round keys, 16 bytes each, in a row.
-- A schedule that holds fewer than two round keys leaves a block as it is.
--   rounds w           Nr, the number of rounds: one less than the whole round keys in w
--   round_key w i      the round key of the round i; that of the round 0 comes before the first round
--   round w i s        the state s after the round i
--   rounds_to w n s    the state s after the rounds 1 to n
--   final_round w i s  the state s after the round i, which is the last: it does not mix the columns
--   cipher w b         the block b, enciphered
--   forward w b        the same for every schedule
--   inv_round w i s, inv_rounds_from w n s, inv_final_round w s, inv_cipher w b, inverse w b   the inverses, the rounds being counted down
use Rattle.std.specs.Prelude.{ℕ, zero, suc, ◌-◌, ◌*◌, ◌/◌, cond, List, length, take, drop, nat_lt}
use Rattle.fips197.specs.State.{sub_bytes, shift_rows, mix_columns, add_round_key, inv_sub_bytes, inv_shift_rows, inv_mix_columns}

abbrev pub rounds : List ℕ → ℕ
rounds w = length w / 16 - 1

unfoldable pub round_key : List ℕ → ℕ → List ℕ
round_key w i = take 16 (drop (16 * i) w)

abbrev pub round : List ℕ → ℕ → List ℕ → List ℕ
round w i s = add_round_key (round_key w i) (mix_columns (shift_rows (sub_bytes s)))

unfoldable pub rounds_to : List ℕ → ℕ → List ℕ → List ℕ
rounds_to w zero s = s
rounds_to w (suc n) s = round w (suc n) (rounds_to w n s)

abbrev pub final_round : List ℕ → ℕ → List ℕ → List ℕ
final_round w i s = add_round_key (round_key w i) (shift_rows (sub_bytes s))

abbrev pub cipher : List ℕ → List ℕ → List ℕ
cipher w b = final_round w (rounds w) (rounds_to w (rounds w - 1) (add_round_key (round_key w 0) b))

abbrev pub forward : List ℕ → List ℕ → List ℕ
forward w b = cond (nat_lt (length w) 32) b (cipher w b)

abbrev pub inv_round : List ℕ → ℕ → List ℕ → List ℕ
inv_round w i s = inv_mix_columns (add_round_key (round_key w i) (inv_sub_bytes (inv_shift_rows s)))

unfoldable pub inv_rounds_from : List ℕ → ℕ → List ℕ → List ℕ
inv_rounds_from w zero s = s
inv_rounds_from w (suc n) s = inv_rounds_from w n (inv_round w (suc n) s)

abbrev pub inv_final_round : List ℕ → List ℕ → List ℕ
inv_final_round w s = add_round_key (round_key w 0) (inv_sub_bytes (inv_shift_rows s))

abbrev pub inv_cipher : List ℕ → List ℕ → List ℕ
inv_cipher w b = inv_final_round w (inv_rounds_from w (rounds w - 1) (add_round_key (round_key w (rounds w)) b))

abbrev pub inverse : List ℕ → List ℕ → List ℕ
inverse w b = cond (nat_lt (length w) 32) b (inv_cipher w b)
