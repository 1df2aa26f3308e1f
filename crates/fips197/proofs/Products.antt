-- Products with a fixed byte are sums of bytes, term by term; so a column mixed by a matrix is unmixed by the inverse one, and by the matrix itself if it is prepared for that. Assumes nothing.
use Rattle.std.proofs.Common.{◌≡◌, ℕ, zero, suc, ◌*◌, ◌/◌, ◌%◌, ◌^◌, ◌<◌, Bool, true, false, cond, eqb, sym, refl, ap, ◌∙◌, add-zero, arith}
use lib.Bits.{bit_xor, xor_assoc, xor_comm, xor_zero_r, xor_self, xor_block, xor_shr, xor_mod, xor_lt}
use Rattle.fips197.specs.Field.{bit, xtime, times, ◌•◌}
use Rattle.fips197.specs.State.{mixed, inv_mixed}
use Rattle.fips197.proofs.Tests.{same-below}

-- sums

xor_swap : (a b c d : ℕ) → bit_xor (bit_xor a b) (bit_xor c d) ≡ bit_xor (bit_xor a c) (bit_xor b d)
xor_swap a b c d =
    xor_assoc a b (bit_xor c d)
    ∙ (ap (bit_xor a) (sym (xor_assoc b c d) ∙ (ap (λ z. bit_xor z d) (xor_comm b c) ∙ xor_assoc c b d))
    ∙ sym (xor_assoc a c (bit_xor b d)))

abbrev sum4 : (a b c d : ℕ) → ℕ
sum4 a b c d = bit_xor (bit_xor (bit_xor a b) c) d

sum4-turned : (a b c d : ℕ) → sum4 a b c d ≡ sum4 d a b c
sum4-turned a b c d =
    xor_comm (bit_xor (bit_xor a b) c) d
    ∙ (sym (xor_assoc d (bit_xor a b) c) ∙ ap (λ z. bit_xor z c) (sym (xor_assoc d a b)))

sum4-turned_twice : (a b c d : ℕ) → sum4 a b c d ≡ sum4 c d a b
sum4-turned_twice a b c d = sum4-turned a b c d ∙ sum4-turned d a b c

sum4-turned_back : (a b c d : ℕ) → sum4 a b c d ≡ sum4 b c d a
sum4-turned_back a b c d = sum4-turned_twice a b c d ∙ sum4-turned c d a b

sum4-sum : (a b c d e f g h : ℕ) → bit_xor (sum4 a b c d) (sum4 e f g h) ≡ sum4 (bit_xor a e) (bit_xor b f) (bit_xor c g) (bit_xor d h)
sum4-sum a b c d e f g h =
    xor_swap (bit_xor (bit_xor a b) c) d (bit_xor (bit_xor e f) g) h
    ∙ ap (λ z. bit_xor z (bit_xor d h))
    (xor_swap (bit_xor a b) c (bit_xor e f) g ∙ ap (λ z. bit_xor z (bit_xor c g)) (xor_swap a b e f))

-- the sum of four rows of four is the sum of their columns
sum4_columns : (a₀ a₁ a₂ a₃ b₀ b₁ b₂ b₃ c₀ c₁ c₂ c₃ d₀ d₁ d₂ d₃ : ℕ)
    → sum4 (sum4 a₀ a₁ a₂ a₃) (sum4 b₀ b₁ b₂ b₃) (sum4 c₀ c₁ c₂ c₃) (sum4 d₀ d₁ d₂ d₃)
    ≡ sum4 (sum4 a₀ b₀ c₀ d₀) (sum4 a₁ b₁ c₁ d₁) (sum4 a₂ b₂ c₂ d₂) (sum4 a₃ b₃ c₃ d₃)
sum4_columns a₀ a₁ a₂ a₃ b₀ b₁ b₂ b₃ c₀ c₁ c₂ c₃ d₀ d₁ d₂ d₃ =
    ap (λ z. bit_xor (bit_xor z (sum4 c₀ c₁ c₂ c₃)) (sum4 d₀ d₁ d₂ d₃)) (sum4-sum a₀ a₁ a₂ a₃ b₀ b₁ b₂ b₃)
    ∙ (ap (λ z. bit_xor z (sum4 d₀ d₁ d₂ d₃)) (sum4-sum (bit_xor a₀ b₀) (bit_xor a₁ b₁) (bit_xor a₂ b₂) (bit_xor a₃ b₃) c₀ c₁ c₂ c₃)
    ∙ sum4-sum (bit_xor (bit_xor a₀ b₀) c₀) (bit_xor (bit_xor a₁ b₁) c₁) (bit_xor (bit_xor a₂ b₂) c₂) (bit_xor (bit_xor a₃ b₃) c₃) d₀ d₁ d₂ d₃)

-- `xtime`

double_sum : (a b : ℕ) → bit_xor a b * 2 ≡ bit_xor (a * 2) (b * 2)
double_sum a b = sym (simp add-zero at (xor_block 1 a b 0 0 (omega arith) (omega arith)))

bits_sum : (p q : ℕ) → p < 2 → q < 2 → bit_xor p q * 0x1b ≡ bit_xor (p * 0x1b) (q * 0x1b)
bits_sum zero q h k = refl
bits_sum (suc zero) zero h k = refl
bits_sum (suc zero) (suc zero) h k = refl
bits_sum (suc zero) (suc (suc q)) h k = absurd (omega arith)
bits_sum (suc (suc p)) q h k = absurd (omega arith)

bit-sum : (a b : ℕ) → bit 7 (bit_xor a b) ≡ bit_xor (bit 7 a) (bit 7 b)
bit-sum a b = ap (λ z. z % 2) (xor_shr a b 7) ∙ xor_mod (a / 2 ^ 7) (b / 2 ^ 7) 1

xtime-sum : (a b : ℕ) → xtime (bit_xor a b) ≡ bit_xor (xtime a) (xtime b)
unfolding xtime
xtime-sum a b =
    let high = ap (λ z. z % 256) (double_sum a b) ∙ xor_mod (a * 2) (b * 2) 8 in
    let low = ap (λ z. z * 0x1b) (bit-sum a b) ∙ bits_sum (bit 7 a) (bit 7 b) (omega arith) (omega arith) in
    ap (λ z. bit_xor z (bit 7 (bit_xor a b) * 0x1b)) high
    ∙ (ap (bit_xor (bit_xor (a * 2 % 256) (b * 2 % 256))) low
    ∙ xor_swap (a * 2 % 256) (b * 2 % 256) (bit 7 a * 0x1b) (bit 7 b * 0x1b))

xtime-lt : (a : ℕ) → xtime a < 256
unfolding xtime
xtime-lt a = xor_lt 8 (a * 2 % 256) (bit 7 a * 0x1b) (omega arith) (omega arith)

-- products

cond_sum : (t : Bool) (a b : ℕ) → cond t (bit_xor a b) 0 ≡ bit_xor (cond t a 0) (cond t b 0)
cond_sum true a b = refl
cond_sum false a b = refl

times-sum : (n c a b : ℕ) → times n c (bit_xor a b) ≡ bit_xor (times n c a) (times n c b)
times-sum zero c a b = refl
times-sum (suc n) c a b =
    let here = eqb (c % 2) 1 in
    ap (λ z. bit_xor z (times n (c / 2) (xtime (bit_xor a b)))) (cond_sum here a b)
    ∙ (ap (λ z. bit_xor (bit_xor (cond here a 0) (cond here b 0)) (times n (c / 2) z)) (xtime-sum a b)
    ∙ (ap (bit_xor (bit_xor (cond here a 0) (cond here b 0))) (times-sum n (c / 2) (xtime a) (xtime b))
    ∙ xor_swap (cond here a 0) (cond here b 0) (times n (c / 2) (xtime a)) (times n (c / 2) (xtime b))))

cond_lt : (t : Bool) (a : ℕ) → a < 256 → cond t a 0 < 256
cond_lt true a h = h
cond_lt false a h = omega arith

times-lt : (n c a : ℕ) → a < 256 → times n c a < 256
times-lt zero c a h = omega arith
times-lt (suc n) c a h =
    xor_lt 8 (cond (eqb (c % 2) 1) a 0) (times n (c / 2) (xtime a)) (cond_lt (eqb (c % 2) 1) a h)
    (times-lt n (c / 2) (xtime a) (xtime-lt a))

product_sum : (c a b : ℕ) → c • bit_xor a b ≡ bit_xor (c • a) (c • b)
unfolding ◌•◌
product_sum c a b = times-sum 8 c a b

product_lt : (c a : ℕ) → a < 256 → (c • a) < 256
unfolding ◌•◌
product_lt c a h = times-lt 8 c a h

product_sum4 : (p a b c d : ℕ) → p • sum4 a b c d ≡ sum4 (p • a) (p • b) (p • c) (p • d)
product_sum4 p a b c d =
    product_sum p (bit_xor (bit_xor a b) c) d
    ∙ ap (λ z. bit_xor z (p • d)) (product_sum p (bit_xor a b) c ∙ ap (λ z. bit_xor z (p • c)) (product_sum p a b))

-- rows of a matrix

abbrev row : (p q t u a b c d : ℕ) → ℕ
row p q t u a b c d = sum4 (p • a) (q • b) (t • c) (u • d)

row_lt : (p q t u a b c d : ℕ) → a < 256 → b < 256 → c < 256 → d < 256 → row p q t u a b c d < 256
row_lt p q t u a b c d h₀ h₁ h₂ h₃ =
    xor_lt 8 _ _ (xor_lt 8 _ _ (xor_lt 8 _ _ (product_lt p a h₀) (product_lt q b h₁)) (product_lt t c h₂)) (product_lt u d h₃)

-- what the product of two matrices has for one byte: one where they undo each other, else zero
abbrev One : (p q t u e f g h : ℕ) → Type 0
One p q t u e f g h = (x : ℕ) → x < 256 → sum4 (p • (e • x)) (q • (f • x)) (t • (g • x)) (u • (h • x)) ≡ x

abbrev None : (p q t u e f g h : ℕ) → Type 0
None p q t u e f g h = (x : ℕ) → x < 256 → sum4 (p • (e • x)) (q • (f • x)) (t • (g • x)) (u • (h • x)) ≡ 0

row-row : (p q t u e f g h : ℕ) → One p q t u e h g f → None p q t u f e h g → None p q t u g f e h → None p q t u h g f e
    → (a b c d : ℕ) → a < 256 → b < 256 → c < 256 → d < 256
    → row p q t u (row e f g h a b c d) (row e f g h b c d a) (row e f g h c d a b) (row e f g h d a b c) ≡ a
row-row p q t u e f g h one none₁ none₂ none₃ a b c d h₀ h₁ h₂ h₃ =
    let first = product_sum4 p (e • a) (f • b) (g • c) (h • d) in
    let second : q • sum4 (e • b) (f • c) (g • d) (h • a) ≡ sum4 (q • (h • a)) (q • (e • b)) (q • (f • c)) (q • (g • d)) =
    product_sum4 q (e • b) (f • c) (g • d) (h • a) ∙ sum4-turned (q • (e • b)) (q • (f • c)) (q • (g • d)) (q • (h • a)) in
    let third : t • sum4 (e • c) (f • d) (g • a) (h • b) ≡ sum4 (t • (g • a)) (t • (h • b)) (t • (e • c)) (t • (f • d)) =
    product_sum4 t (e • c) (f • d) (g • a) (h • b) ∙ sum4-turned_twice (t • (e • c)) (t • (f • d)) (t • (g • a)) (t • (h • b)) in
    let fourth : u • sum4 (e • d) (f • a) (g • b) (h • c) ≡ sum4 (u • (f • a)) (u • (g • b)) (u • (h • c)) (u • (e • d)) =
    product_sum4 u (e • d) (f • a) (g • b) (h • c) ∙ sum4-turned_back (u • (e • d)) (u • (f • a)) (u • (g • b)) (u • (h • c)) in
    let rest : sum4 a 0 0 0 ≡ a = simp xor_zero_r in
    rw (first, second, third, fourth)
    (sum4_columns (p • (e • a)) (p • (f • b)) (p • (g • c)) (p • (h • d)) (q • (h • a)) (q • (e • b)) (q • (f • c)) (q • (g • d))
    (t • (g • a)) (t • (h • b)) (t • (e • c)) (t • (f • d)) (u • (f • a)) (u • (g • b)) (u • (h • c)) (u • (e • d))
    ∙ rw (one a h₀, none₁ b h₁, none₂ c h₂, none₃ d h₃) rest)

-- how the columns are mixed

product_1 : (a : ℕ) → 0x01 • a ≡ a
unfolding ◌•◌
product_1 a = xor_zero_r a

pub product_2 : (a : ℕ) → xtime a ≡ 0x02 • a
unfolding ◌•◌
product_2 a = sym (xor_zero_r (xtime a))

pub product_3 : (a : ℕ) → bit_xor a (xtime a) ≡ 0x03 • a
unfolding ◌•◌
product_3 a = ap (bit_xor a) (sym (xor_zero_r (xtime a)))

product_9 : (a : ℕ) → bit_xor a (xtime (xtime (xtime a))) ≡ 0x09 • a
unfolding ◌•◌
product_9 a = ap (bit_xor a) (sym (xor_zero_r (xtime (xtime (xtime a)))))

product_b : (a : ℕ) → bit_xor a (bit_xor (xtime a) (xtime (xtime (xtime a)))) ≡ 0x0b • a
unfolding ◌•◌
product_b a = ap (λ z. bit_xor a (bit_xor (xtime a) z)) (sym (xor_zero_r (xtime (xtime (xtime a)))))

product_d : (a : ℕ) → bit_xor a (bit_xor (xtime (xtime a)) (xtime (xtime (xtime a)))) ≡ 0x0d • a
unfolding ◌•◌
product_d a = ap (λ z. bit_xor a (bit_xor (xtime (xtime a)) z)) (sym (xor_zero_r (xtime (xtime (xtime a)))))

product_e : (a : ℕ) → bit_xor (xtime a) (bit_xor (xtime (xtime a)) (xtime (xtime (xtime a)))) ≡ 0x0e • a
unfolding ◌•◌
product_e a = ap (λ z. bit_xor (xtime a) (bit_xor (xtime (xtime a)) z)) (sym (xor_zero_r (xtime (xtime (xtime a)))))

mixed-row : (a b c d : ℕ) → mixed a b c d ≡ row 0x02 0x03 0x01 0x01 a b c d
mixed-row a b c d = rw (product_1 c, product_1 d)

pub mixed-lt : (a b c d : ℕ) → a < 256 → b < 256 → c < 256 → d < 256 → mixed a b c d < 256
mixed-lt a b c d h₀ h₁ h₂ h₃ = rw (mixed-row a b c d) (row_lt 0x02 0x03 0x01 0x01 a b c d h₀ h₁ h₂ h₃)

pub inv_mixed-lt : (a b c d : ℕ) → a < 256 → b < 256 → c < 256 → d < 256 → inv_mixed a b c d < 256
inv_mixed-lt a b c d = row_lt 0x0e 0x0b 0x0d 0x09 a b c d

-- f takes back what g makes of a column
abbrev pub Undoes : (f g : ℕ → ℕ → ℕ → ℕ → ℕ) → Type 0
Undoes f g =
    (a b c d : ℕ) → a < 256 → b < 256 → c < 256 → d < 256 → f (g a b c d) (g b c d a) (g c d a b) (g d a b c) ≡ a

unmixed-row : Undoes (row 0x0e 0x0b 0x0d 0x09) (row 0x02 0x03 0x01 0x01)
unfolding xtime ◌•◌
unmixed-row =
    row-row 0x0e 0x0b 0x0d 0x09 0x02 0x03 0x01 0x01
    (same-below _ _ 256 refl) (same-below _ _ 256 refl) (same-below _ _ 256 refl) (same-below _ _ 256 refl)

remixed-row : Undoes (row 0x02 0x03 0x01 0x01) (row 0x0e 0x0b 0x0d 0x09)
unfolding xtime ◌•◌
remixed-row =
    row-row 0x02 0x03 0x01 0x01 0x0e 0x0b 0x0d 0x09
    (same-below _ _ 256 refl) (same-below _ _ 256 refl) (same-below _ _ 256 refl) (same-below _ _ 256 refl)

pub unmixed : Undoes inv_mixed mixed
unmixed a b c d h₀ h₁ h₂ h₃ =
    rw (mixed-row a b c d, mixed-row b c d a, mixed-row c d a b, mixed-row d a b c) (unmixed-row a b c d h₀ h₁ h₂ h₃)

pub remixed : Undoes mixed inv_mixed
remixed a b c d h₀ h₁ h₂ h₃ =
    mixed-row (inv_mixed a b c d) (inv_mixed b c d a) (inv_mixed c d a b) (inv_mixed d a b c) ∙ remixed-row a b c d h₀ h₁ h₂ h₃

-- a column that is prepared, a by 04 times the sum of a and c, and then mixed is mixed back

abbrev pub prepared : (a c : ℕ) → ℕ
prepared a c = bit_xor a (xtime (xtime (bit_xor a c)))

xtime_twice_sum : (a b : ℕ) → xtime (xtime (bit_xor a b)) ≡ bit_xor (xtime (xtime a)) (xtime (xtime b))
xtime_twice_sum a b = ap xtime (xtime-sum a b) ∙ xtime-sum (xtime a) (xtime b)

prepared-sum : (a c : ℕ) → prepared a c ≡ bit_xor a (bit_xor (xtime (xtime a)) (xtime (xtime c)))
prepared-sum a c = ap (bit_xor a) (xtime_twice_sum a c)

xtime-prepared : (a c : ℕ) → xtime (prepared a c) ≡ bit_xor (xtime a) (bit_xor (xtime (xtime (xtime a))) (xtime (xtime (xtime c))))
xtime-prepared a c =
    xtime-sum a (xtime (xtime (bit_xor a c)))
    ∙ ap (bit_xor (xtime a)) (ap xtime (xtime_twice_sum a c) ∙ xtime-sum (xtime (xtime a)) (xtime (xtime c)))

sum4_pairs : (a b c d : ℕ) → sum4 a b c d ≡ bit_xor (bit_xor a c) (bit_xor b d)
sum4_pairs a b c d = xor_assoc (bit_xor a b) c d ∙ xor_swap a b c d

-- the products of the bytes a and c, that are two rows apart, sorted
sorted : (a2 a4 a8 c c4 c8 : ℕ)
    → bit_xor (bit_xor a2 (bit_xor a8 c8)) (bit_xor c (bit_xor c4 a4)) ≡ bit_xor (bit_xor a2 (bit_xor a4 a8)) (bit_xor c (bit_xor c4 c8))
sorted a2 a4 a8 c c4 c8 =
    xor_swap a2 (bit_xor a8 c8) c (bit_xor c4 a4)
    ∙ (ap (bit_xor (bit_xor a2 c))
    (ap (bit_xor (bit_xor a8 c8)) (xor_comm c4 a4) ∙ (xor_swap a8 c8 a4 c4 ∙ rw (xor_comm a8 a4, xor_comm c8 c4)))
    ∙ sym (xor_swap a2 (bit_xor a4 a8) c (bit_xor c4 c8)))

-- those of the bytes b and d: 04 b and 04 d occur twice and go
cancelled : (b b2 b4 b8 d d4 d8 : ℕ)
    → bit_xor (bit_xor (bit_xor b (bit_xor b4 d4)) (bit_xor b2 (bit_xor b8 d8))) (bit_xor d (bit_xor d4 b4)) ≡ bit_xor (bit_xor b (bit_xor b2 b8)) (bit_xor d d8)
cancelled b b2 b4 b8 d d4 d8 =
    let first = bit_xor b (bit_xor b4 d4) in
    let second = bit_xor b2 (bit_xor b8 d8) in
    let third = bit_xor d (bit_xor d4 b4) in
    let gone : bit_xor (bit_xor b4 d4) (bit_xor d4 b4) ≡ 0 = ap (bit_xor (bit_xor b4 d4)) (xor_comm d4 b4) ∙ xor_self (bit_xor b4 d4) in
    let left : bit_xor first third ≡ bit_xor b d =
    xor_swap b (bit_xor b4 d4) d (bit_xor d4 b4) ∙ (ap (bit_xor (bit_xor b d)) gone ∙ xor_zero_r (bit_xor b d)) in
    xor_assoc first second third
    ∙ (ap (bit_xor first) (xor_comm second third)
    ∙ (sym (xor_assoc first third second)
    ∙ (ap (λ z. bit_xor z second) left
    ∙ (ap (bit_xor (bit_xor b d)) (sym (xor_assoc b2 b8 d8)) ∙ xor_swap b d (bit_xor b2 b8) d8))))

both : {x y u v : ℕ} → x ≡ y → u ≡ v → bit_xor x u ≡ bit_xor y v
both p q = cc

even_rows : (a c : ℕ) → bit_xor (0x02 • prepared a c) (prepared c a) ≡ bit_xor (0x0e • a) (0x0d • c)
even_rows a c =
    both (sym (product_2 (prepared a c)) ∙ xtime-prepared a c) (prepared-sum c a)
    ∙ (sorted (xtime a) (xtime (xtime a)) (xtime (xtime (xtime a))) c (xtime (xtime c)) (xtime (xtime (xtime c)))
    ∙ both (product_e a) (product_d c))

odd_rows : (b d : ℕ) → bit_xor (0x03 • prepared b d) (prepared d b) ≡ bit_xor (0x0b • b) (0x09 • d)
odd_rows b d =
    both (sym (product_3 (prepared b d)) ∙ both (prepared-sum b d) (xtime-prepared b d)) (prepared-sum d b)
    ∙ (cancelled b (xtime b) (xtime (xtime b)) (xtime (xtime (xtime b))) d (xtime (xtime d)) (xtime (xtime (xtime d)))
    ∙ both (product_b b) (product_9 d))

pub mixed-prepared : (a b c d : ℕ) → mixed (prepared a c) (prepared b d) (prepared c a) (prepared d b) ≡ inv_mixed a b c d
mixed-prepared a b c d =
    sum4_pairs (0x02 • prepared a c) (0x03 • prepared b d) (prepared c a) (prepared d b)
    ∙ (both (even_rows a c) (odd_rows b d) ∙ sym (sum4_pairs (0x0e • a) (0x0b • b) (0x0d • c) (0x09 • d)))
