-- Enciphering and deciphering by cipher block chaining as turns of blocks. Assumes nothing.
use Rattle.std.proofs.Common.{◌≡◌, ℕ, zero, suc, ◌+◌, ◌*◌, ◌/◌, ◌%◌, Bool, true, false, if◌then◌else◌, List, ◌++◌, length, take, drop, sym, refl, ap, ◌∙◌, append-nil, arith}
use Rattle.std.proofs.lemmas.List.{length-append, length-take-le, length-drop, drop_at, drop-drop, take-append-drop, nil_from_length}
use Rattle.std.proofs.lemmas.Bool.{eqb-true}
use Rattle.block.specs.Xor.{xored}
use Rattle.block.proofs.Sums.{length-xored}
use Rattle.cbc.specs.Cbc.{whole_blocks, enciphered_blocks, deciphered_blocks, cbc_enciphered, cbc_deciphered, last_block}
use Rattle.cbc.specs.Turning.{Turn, turned, last_chain}

abbrev pub enciphers : (List ℕ → List ℕ) → Turn
enciphers ciph v b = ciph (xored b v)

abbrev pub deciphers : (List ℕ → List ℕ) → Turn
deciphers inv v b = xored (inv b) v

abbrev pub itself : Turn
itself v b = b

pub enciphered-turned : (ciph : List ℕ → List ℕ) (n : ℕ) (v x : List ℕ) → enciphered_blocks ciph n v x ≡ turned (enciphers ciph) (enciphers ciph) n v x
enciphered-turned ciph zero v x = refl
enciphered-turned ciph (suc n) v x = ap (λ z. ciph (xored (take 16 x) v) ++ z) (enciphered-turned ciph n _ (drop 16 x))

pub deciphered-turned : (inv : List ℕ → List ℕ) (n : ℕ) (v x : List ℕ) → deciphered_blocks inv n v x ≡ turned (deciphers inv) itself n v x
deciphered-turned inv zero v x = refl
deciphered-turned inv (suc n) v x = ap (λ z. xored (inv (take 16 x)) v ++ z) (deciphered-turned inv n (take 16 x) (drop 16 x))

-- where a text has whole blocks
pub whole : (x : List ℕ) → length x % 16 ≡ 0 → length x ≡ 16 * (length x / 16)
whole x e = omega arith

cond_alike : {A : Type 0} {x y : A} (z : A) (t : Bool) → (t ≡ true → x ≡ y) → (if t then x else z) ≡ (if t then y else z)
cond_alike z true same = same refl
cond_alike z false same = refl

where_whole : {A : Type 0} {y y' : A} (z : A) (x : List ℕ) → (length x ≡ 16 * (length x / 16) → y ≡ y') → (if whole_blocks x then y else z) ≡ (if whole_blocks x then y' else z)
where_whole z x same = cond_alike z (whole_blocks x) (λ t. same (whole x (eqb-true (length x % 16) 0 t)))

-- the first of n blocks, and the rest
pub first_long : (n : ℕ) (x : List ℕ) → length x ≡ 16 * suc n → length (take 16 x) ≡ 16
first_long n x e = length-take-le 16 x (omega arith)

pub rest-long : (n : ℕ) (x : List ℕ) → length x ≡ 16 * suc n → length (drop 16 x) ≡ 16 * n
rest-long n x e = length-drop 16 x ∙ omega arith

-- the last block, where one more comes in front
last_more : (c b x : List ℕ) → length c ≡ 16 → length b ≡ 16 → last_block c (b ++ x) ≡ last_block b x
last_more c b x e f =
    ap (λ m. drop m (c ++ (b ++ x))) (length-append b x ∙ ap (λ m. m + length x) f)
    ∙ (sym (drop-drop (length x) 16 (c ++ (b ++ x))) ∙ ap (drop (length x)) (drop_at c (b ++ x) 16 e))

-- the last chain is the last block of what the turns that give the chains give
pub last_turned : (next : Turn) → ((v b : List ℕ) → length v ≡ 16 → length b ≡ 16 → length (next v b) ≡ 16)
    → (n : ℕ) (v x : List ℕ) → length v ≡ 16 → length x ≡ 16 * n → last_chain next n v x ≡ last_block v (turned next next n v x)
last_turned next keeps zero v x e long = sym (append-nil v)
last_turned next keeps (suc n) v x e long =
    let b = take 16 x in
    let long-next = keeps v b e (first_long n x long) in
    last_turned next keeps n (next v b) (drop 16 x) long-next (rest-long n x long)
    ∙ sym (last_more v (next v b) (turned next next n (next v b) (drop 16 x)) e long-next)

pub turned-itself : (n : ℕ) (v x : List ℕ) → length x ≡ 16 * n → turned itself itself n v x ≡ x
turned-itself zero v x long = sym (nil_from_length x long)
turned-itself (suc n) v x long =
    ap (λ z. take 16 x ++ z) (turned-itself n (take 16 x) (drop 16 x) (rest-long n x long)) ∙ take-append-drop 16 x

module _ (ciph : List ℕ → List ℕ) (v x : List ℕ) where
  pub enciphered_where_whole : (if whole_blocks x then turned (enciphers ciph) (enciphers ciph) (length x / 16) v x else x) ≡ (if whole_blocks x then cbc_enciphered ciph v x else x)
  enciphered_where_whole = where_whole x x (λ e. sym (enciphered-turned ciph (length x / 16) v x))

  pub last_enciphered : ((b : List ℕ) → length b ≡ 16 → length (ciph b) ≡ 16) → length v ≡ 16
      → (if whole_blocks x then last_chain (enciphers ciph) (length x / 16) v x else v) ≡ (if whole_blocks x then last_block v (cbc_enciphered ciph v x) else v)
  last_enciphered keeps e =
      let n = length x / 16 in
      where_whole v x
      (λ long. last_turned (enciphers ciph) (λ u b eu eb. keeps (xored b u) (length-xored b u ∙ eb)) n v x e long ∙ ap (last_block v) (sym (enciphered-turned ciph n v x)))

module _ (v x : List ℕ) where
  pub deciphered_where_whole : (inv : List ℕ → List ℕ)
      → (if whole_blocks x then turned (deciphers inv) itself (length x / 16) v x else x) ≡ (if whole_blocks x then cbc_deciphered inv v x else x)
  deciphered_where_whole inv = where_whole x x (λ e. sym (deciphered-turned inv (length x / 16) v x))

  pub last_given : length v ≡ 16 → (if whole_blocks x then last_chain itself (length x / 16) v x else v) ≡ (if whole_blocks x then last_block v x else v)
  last_given e =
      let n = length x / 16 in
      where_whole v x (λ long. last_turned itself (λ u b eu eb. eb) n v x e long ∙ ap (last_block v) (turned-itself n v x long))
