-- The inverse cipher undoes the cipher and is undone by it, under every schedule of bytes. Assumes nothing.
use Rattle.std.specs.Prelude.{◌≡◌, ℕ, zero, suc, ◌-◌, ◌*◌, ◌<◌, Bool, true, false, cond, List, length, drop, nat_lt, refl}
use Rattle.std.proofs.Common.{ap, ◌∙◌}
use Rattle.std.proofs.ByRecursion.{All-take, All-drop}
use Rattle.std.proofs.lemmas.Bool.{cond_both}
use Rattle.octets.specs.Octets.{Octets}
use Rattle.block.proofs.Sums.{length-xored}
use Rattle.fips197.specs.State.{sub_bytes, shift_rows, mix_columns, add_round_key, inv_sub_bytes, inv_shift_rows, inv_mix_columns}
use Rattle.aes.specs.Cipher.{rounds, round_key, round, rounds_to, final_round, cipher, forward, inv_round, inv_rounds_from, inv_final_round, inv_cipher, inverse}
use Rattle.fips197.proofs.States.{State, state_sub_bytes, state_inv_sub_bytes, state_shift_rows, state_inv_shift_rows, state_mix_columns, state_inv_mix_columns, state_add_round_key, inv_sub_bytes-sub_bytes, sub_bytes-inv_sub_bytes, inv_shift_rows-shift_rows, shift_rows-inv_shift_rows, inv_mix_columns-mix_columns, mix_columns-inv_mix_columns, add_round_key_twice}

-- bytes replaced and rows shifted, and back
abbrev moved : List ℕ → List ℕ
moved s = shift_rows (sub_bytes s)

abbrev moved_back : List ℕ → List ℕ
moved_back s = inv_sub_bytes (inv_shift_rows s)

state_moved : (s : List ℕ) → State s → State (moved s)
state_moved s st = state_shift_rows (sub_bytes s) (state_sub_bytes s st)

state_moved_back : (s : List ℕ) → State s → State (moved_back s)
state_moved_back s st = state_inv_sub_bytes (inv_shift_rows s) (state_inv_shift_rows s st)

moved_back-moved : (s : List ℕ) → State s → moved_back (moved s) ≡ s
moved_back-moved s st = ap inv_sub_bytes (inv_shift_rows-shift_rows (sub_bytes s) (state_sub_bytes s st)) ∙ inv_sub_bytes-sub_bytes s st

moved-moved_back : (s : List ℕ) → State s → moved (moved_back s) ≡ s
moved-moved_back s st = ap shift_rows (sub_bytes-inv_sub_bytes (inv_shift_rows s) (state_inv_shift_rows s st)) ∙ shift_rows-inv_shift_rows s st

octets-round_key : (w : List ℕ) (i : ℕ) → Octets w → Octets (round_key w i)
unfolding round_key
octets-round_key w i o = All-take (λ x. x < 256) 16 (drop (16 * i) w) (All-drop (λ x. x < 256) (16 * i) w o)

state_added : (w : List ℕ) (i : ℕ) (s : List ℕ) → Octets w → State s → State (add_round_key (round_key w i) s)
state_added w i s o st = state_add_round_key (round_key w i) s (octets-round_key w i o) st

-- rounds

state_round : (w : List ℕ) (i : ℕ) (s : List ℕ) → Octets w → State s → State (round w i s)
state_round w i s o st = state_added w i (mix_columns (moved s)) o (state_mix_columns (moved s) (state_moved s st))

state_inv_round : (w : List ℕ) (i : ℕ) (s : List ℕ) → Octets w → State s → State (inv_round w i s)
state_inv_round w i s o st =
    state_inv_mix_columns (add_round_key (round_key w i) (moved_back s)) (state_added w i (moved_back s) o (state_moved_back s st))

state_rounds_to : (w : List ℕ) (n : ℕ) (s : List ℕ) → Octets w → State s → State (rounds_to w n s)
unfolding rounds_to
state_rounds_to w zero s o st = st
state_rounds_to w (suc n) s o st = state_round w (suc n) (rounds_to w n s) o (state_rounds_to w n s o st)

state_inv_rounds_from : (w : List ℕ) (n : ℕ) (s : List ℕ) → Octets w → State s → State (inv_rounds_from w n s)
unfolding inv_rounds_from
state_inv_rounds_from w zero s o st = st
state_inv_rounds_from w (suc n) s o st = state_inv_rounds_from w n (inv_round w (suc n) s) o (state_inv_round w (suc n) s o st)

-- a round of the inverse cipher undoes a round of the cipher, between the two halves of a round
round_back : (w : List ℕ) (i : ℕ) (s : List ℕ) → Octets w → State s → inv_round w i (moved (round w i s)) ≡ moved s
round_back w i s o st =
    ap (λ u. inv_mix_columns (add_round_key (round_key w i) u)) (moved_back-moved (round w i s) (state_round w i s o st))
    ∙ (ap inv_mix_columns (add_round_key_twice (round_key w i) (mix_columns (moved s))) ∙ inv_mix_columns-mix_columns (moved s) (state_moved s st))

inv_round_back : (w : List ℕ) (i : ℕ) (s : List ℕ) → Octets w → State s → round w i (moved_back (inv_round w i s)) ≡ moved_back s
inv_round_back w i s o st =
    let added = add_round_key (round_key w i) (moved_back s) in
    ap (λ u. add_round_key (round_key w i) (mix_columns u)) (moved-moved_back (inv_round w i s) (state_inv_round w i s o st))
    ∙ (ap (add_round_key (round_key w i)) (mix_columns-inv_mix_columns added (state_added w i (moved_back s) o (state_moved_back s st)))
    ∙ add_round_key_twice (round_key w i) (moved_back s))

rounds_back : (w : List ℕ) (n : ℕ) (s : List ℕ) → Octets w → State s → inv_rounds_from w n (moved (rounds_to w n s)) ≡ moved s
unfolding rounds_to inv_rounds_from
rounds_back w zero s o st = refl
rounds_back w (suc n) s o st =
    ap (inv_rounds_from w n) (round_back w (suc n) (rounds_to w n s) o (state_rounds_to w n s o st)) ∙ rounds_back w n s o st

inv_rounds_back : (w : List ℕ) (n : ℕ) (s : List ℕ) → Octets w → State s → rounds_to w n (moved_back (inv_rounds_from w n s)) ≡ moved_back s
unfolding rounds_to inv_rounds_from
inv_rounds_back w zero s o st = refl
inv_rounds_back w (suc n) s o st =
    ap (round w (suc n)) (inv_rounds_back w n (inv_round w (suc n) s) o (state_inv_round w (suc n) s o st))
    ∙ inv_round_back w (suc n) s o st

-- the ciphers

state_cipher : (w b : List ℕ) → Octets w → State b → State (cipher w b)
state_cipher w b o st =
    let before = rounds_to w (rounds w - 1) (add_round_key (round_key w 0) b) in
    state_added w (rounds w) (moved before) o
    (state_moved before (state_rounds_to w (rounds w - 1) (add_round_key (round_key w 0) b) o (state_added w 0 b o st)))

state_inv_cipher : (w b : List ℕ) → Octets w → State b → State (inv_cipher w b)
state_inv_cipher w b o st =
    let before = inv_rounds_from w (rounds w - 1) (add_round_key (round_key w (rounds w)) b) in
    state_added w 0 (moved_back before) o
    (state_moved_back before
    (state_inv_rounds_from w (rounds w - 1) (add_round_key (round_key w (rounds w)) b) o (state_added w (rounds w) b o st)))

cipher_back : (w b : List ℕ) → Octets w → State b → inv_cipher w (cipher w b) ≡ b
cipher_back w b o st =
    let n = rounds w - 1 in
    let first = add_round_key (round_key w 0) b in
    let last = rounds_to w n first in
    let state = state_added w 0 b o st in
    ap (λ u. inv_final_round w (inv_rounds_from w n u)) (add_round_key_twice (round_key w (rounds w)) (moved last))
    ∙ (ap (inv_final_round w) (rounds_back w n first o state)
    ∙ (ap (add_round_key (round_key w 0)) (moved_back-moved first state) ∙ add_round_key_twice (round_key w 0) b))

inv_cipher_back : (w b : List ℕ) → Octets w → State b → cipher w (inv_cipher w b) ≡ b
inv_cipher_back w b o st =
    let n = rounds w - 1 in
    let first = add_round_key (round_key w (rounds w)) b in
    let last = inv_rounds_from w n first in
    let state = state_added w (rounds w) b o st in
    ap (λ u. final_round w (rounds w) (rounds_to w n u)) (add_round_key_twice (round_key w 0) (moved_back last))
    ∙ (ap (final_round w (rounds w)) (inv_rounds_back w n first o state)
    ∙ (ap (add_round_key (round_key w (rounds w))) (moved-moved_back first state) ∙ add_round_key_twice (round_key w (rounds w)) b))

-- for every schedule

pub state_forward : (w b : List ℕ) → Octets w → State b → State (forward w b)
state_forward w b o st = cond_both (nat_lt (length w) 32) b (cipher w b) State (λ e. st) (λ e. state_cipher w b o st)

pub state_inverse : (w b : List ℕ) → Octets w → State b → State (inverse w b)
state_inverse w b o st = cond_both (nat_lt (length w) 32) b (inv_cipher w b) State (λ e. st) (λ e. state_inv_cipher w b o st)

cond_back : (t : Bool) (f g : List ℕ → List ℕ) (b : List ℕ) → f (g b) ≡ b → cond t (cond t b (g b)) (f (cond t b (g b))) ≡ b
cond_back true f g b h = refl
cond_back false f g b h = h

pub inverse-forward : (w b : List ℕ) → Octets w → State b → inverse w (forward w b) ≡ b
inverse-forward w b o st = cond_back (nat_lt (length w) 32) (inv_cipher w) (cipher w) b (cipher_back w b o st)

pub forward-inverse : (w b : List ℕ) → Octets w → State b → forward w (inverse w b) ≡ b
forward-inverse w b o st = cond_back (nat_lt (length w) 32) (cipher w) (inv_cipher w) b (inv_cipher_back w b o st)

pub length-forward : (w b : List ℕ) → length b ≡ 16 → length (forward w b) ≡ 16
unfolding add_round_key shift_rows
length-forward w b e =
    let last = moved (rounds_to w (rounds w - 1) (add_round_key (round_key w 0) b)) in
    cond_both (nat_lt (length w) 32) b (cipher w b) (λ s. length s ≡ 16) (λ t. e)
    (λ t. length-xored last (round_key w (rounds w)))

pub length-inverse : (w b : List ℕ) → length b ≡ 16 → length (inverse w b) ≡ 16
unfolding add_round_key inv_sub_bytes inv_shift_rows
length-inverse w b e =
    let last = moved_back (inv_rounds_from w (rounds w - 1) (add_round_key (round_key w (rounds w)) b)) in
    cond_both (nat_lt (length w) 32) b (inv_cipher w b) (λ s. length s ≡ 16) (λ t. e)
    (λ t. length-xored last (round_key w 0))
