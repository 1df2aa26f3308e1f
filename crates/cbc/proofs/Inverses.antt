-- Enciphering and deciphering by cipher block chaining keep the length, give bytes and undo each other, where the cipher's functions do.
-- Assumes nothing.
use Rattle.std.proofs.Common.{◌≡◌, ℕ, zero, suc, ◌*◌, ◌/◌, ◌%◌, ◌<◌, List, length, take, drop, sym, refl, ap, ◌∙◌, subst, arith}
use Rattle.std.proofs.ByRecursion.{All-append, All-take, All-drop}
use Rattle.std.proofs.lemmas.List.{length-append, nil_from_length, take-append-drop, take_at, drop_at}
use Rattle.block.specs.Xor.{xored}
use Rattle.block.proofs.Sums.{length-xored, octets-xored, xored_twice}
use Rattle.octets.specs.Octets.{Octets}
use Rattle.cbc.specs.Cbc.{enciphered_blocks, deciphered_blocks, cbc_enciphered, cbc_deciphered}
use Rattle.cbc.specs.Turning.{Turn, turned}
use Rattle.cbc.proofs.Directions.{enciphers, deciphers, itself, enciphered-turned, deciphered-turned, first_long, rest-long, whole}

-- a block: 16 bytes
pub record Block (b : List ℕ) : Type 0 where
  pub long : length b ≡ 16
  pub bytes : Octets b

first_block : (n : ℕ) (x : List ℕ) → length x ≡ 16 * suc n → Octets x → Block (take 16 x)
first_block n x e h = record { long = first_long n x e; bytes = All-take (λ y. y < 256) 16 x h }

-- a turn gives 16 values for 16
abbrev Keeps : Turn → Type 0
Keeps o = (v b : List ℕ) → length v ≡ 16 → length b ≡ 16 → length (o v b) ≡ 16

-- a turn gives blocks for blocks
abbrev Gives : Turn → Type 0
Gives o = (v b : List ℕ) → Block v → Block b → Block (o v b)

module _ (o w : Turn) where
  turned-length : Keeps o → Keeps w → (n : ℕ) (v x : List ℕ) → length v ≡ 16 → length x ≡ 16 * n → length (turned o w n v x) ≡ 16 * n
  turned-length ko kw zero v x ev e = refl
  turned-length ko kw (suc n) v x ev e =
      let b = take 16 x in
      let first = ko v b ev (first_long n x e) in
      let rest = turned-length ko kw n (w v b) (drop 16 x) (kw v b ev (first_long n x e)) (rest-long n x e) in
      length-append (o v b) (turned o w n (w v b) (drop 16 x)) ∙ omega arith

  turned-bytes : Gives o → Gives w → (n : ℕ) (v x : List ℕ) → Block v → length x ≡ 16 * n → Octets x → Octets (turned o w n v x)
  turned-bytes go gw zero v x bv e h = tt
  turned-bytes go gw (suc n) v x bv e h =
      let b = first_block n x e h in
      All-append (λ y. y < 256) (o v (take 16 x)) (turned o w n (w v (take 16 x)) (drop 16 x)) (go v (take 16 x) bv b).bytes
      (turned-bytes go gw n (w v (take 16 x)) (drop 16 x) (gw v (take 16 x) bv b) (rest-long n x e) (All-drop (λ y. y < 256) 16 x h))

  -- p undoes o where it goes on with the same chain
  turn_back : (p u : Turn) → Gives o → Gives w
      → ((v b : List ℕ) → Block v → Block b → p v (o v b) ≡ b) → ((v b : List ℕ) → Block v → Block b → u v (o v b) ≡ w v b)
      → (n : ℕ) (v x : List ℕ) → Block v → length x ≡ 16 * n → Octets x → turned p u n v (turned o w n v x) ≡ x
  turn_back p u go gw back chain zero v x bv e h = sym (nil_from_length x e)
  turn_back p u go gw back chain (suc n) v x bv e h =
      let a = take 16 x in
      let b = first_block n x e h in
      let y = turned o w n (w v a) (drop 16 x) in
      let long = (go v a bv b).long in
      let rest =
      turn_back p u go gw back chain n (w v a) (drop 16 x) (gw v a bv b) (rest-long n x e) (All-drop (λ y. y < 256) 16 x h) in
      rw (take_at (o v a) y 16 long, drop_at (o v a) y 16 long, back v a bv b, chain v a bv b, rest) (take-append-drop 16 x)

-- what is asked of a cipher's function: it keeps the length of a block, and gives bytes for bytes
abbrev pub KeepsBlock : (List ℕ → List ℕ) → Type 0
KeepsBlock f = (b : List ℕ) → length b ≡ 16 → length (f b) ≡ 16

abbrev pub BytesForBytes : (List ℕ → List ℕ) → Type 0
BytesForBytes f = (b : List ℕ) → Octets b → length b ≡ 16 → Octets (f b)

-- g undoes f on blocks
abbrev pub Undoes : (List ℕ → List ℕ) → (List ℕ → List ℕ) → Type 0
Undoes g f = (b : List ℕ) → Octets b → length b ≡ 16 → g (f b) ≡ b

sum-block : (b v : List ℕ) → Block b → Block v → Block (xored b v)
sum-block b v p q = record { long = length-xored b v ∙ p.long; bytes = octets-xored b v p.bytes q.bytes }

-- the lengths
module _ (f : List ℕ → List ℕ) (keeps : KeepsBlock f) (v x : List ℕ) (long : length v ≡ 16) (e : length x % 16 ≡ 0) where
  pub length-enciphered : length (cbc_enciphered f v x) ≡ length x
  length-enciphered =
      let k : Keeps (enciphers f) = λ u b eu eb. keeps (xored b u) (length-xored b u ∙ eb) in
      ap length (enciphered-turned f (length x / 16) v x)
      ∙ (turned-length (enciphers f) (enciphers f) k k (length x / 16) v x long (whole x e) ∙ sym (whole x e))

  pub length-deciphered : length (cbc_deciphered f v x) ≡ length x
  length-deciphered =
      ap length (deciphered-turned f (length x / 16) v x)
      ∙ (turned-length (deciphers f) itself (λ u b eu eb. length-xored (f b) u ∙ keeps b eb) (λ u b eu eb. eb) (length x / 16) v x long (whole x e)
      ∙ sym (whole x e))

gives-itself : Gives itself
gives-itself v b p q = q

module _ (f : List ℕ → List ℕ) (keeps : KeepsBlock f) (bytes : BytesForBytes f) where
  gives : (b : List ℕ) → Block b → Block (f b)
  gives b q = record { long = keeps b q.long; bytes = bytes b q.bytes q.long }

  gives-enciphered : Gives (enciphers f)
  gives-enciphered v b p q = gives (xored b v) (sum-block b v q p)

  gives-deciphered : Gives (deciphers f)
  gives-deciphered v b p q = sum-block (f b) v (gives b q) p

  -- the bytes
  pub octets-enciphered : (v x : List ℕ) → Block v → length x % 16 ≡ 0 → Octets x → Octets (cbc_enciphered f v x)
  octets-enciphered v x p e h =
      subst Octets (sym (enciphered-turned f (length x / 16) v x))
      (turned-bytes (enciphers f) (enciphers f) gives-enciphered gives-enciphered (length x / 16) v x p (whole x e) h)

  pub octets-deciphered : (v x : List ℕ) → Block v → length x % 16 ≡ 0 → Octets x → Octets (cbc_deciphered f v x)
  octets-deciphered v x p e h =
      subst Octets (sym (deciphered-turned f (length x / 16) v x))
      (turned-bytes (deciphers f) itself gives-deciphered gives-itself (length x / 16) v x p (whole x e) h)

-- each undoes the other
module _ (ciph inv : List ℕ → List ℕ) (v x : List ℕ) (p : Block v) (e : length x % 16 ≡ 0) (h : Octets x) where
  pub deciphering_undoes : KeepsBlock ciph → BytesForBytes ciph → Undoes inv ciph → cbc_deciphered inv v (cbc_enciphered ciph v x) ≡ x
  deciphering_undoes keeps bytes undoes =
      let n = length x / 16 in
      let y = cbc_enciphered ciph v x in
      let k = gives-enciphered ciph keeps bytes in
      ap (λ m. deciphered_blocks inv (m / 16) v y) (length-enciphered ciph keeps v x p.long e)
      ∙ (deciphered-turned inv n v y
      ∙ (ap (turned (deciphers inv) itself n v) (enciphered-turned ciph n v x)
      ∙ turn_back (enciphers ciph) (enciphers ciph) (deciphers inv) itself k k
      (λ u b q r. let s = sum-block b u r q in ap (λ z. xored z u) (undoes (xored b u) s.bytes s.long) ∙ xored_twice b u)
      (λ u b q r. refl) n v x p (whole x e) h))

  pub enciphering_undoes : KeepsBlock inv → BytesForBytes inv → Undoes ciph inv → cbc_enciphered ciph v (cbc_deciphered inv v x) ≡ x
  enciphering_undoes keeps bytes undoes =
      let n = length x / 16 in
      let y = cbc_deciphered inv v x in
      let again : (u b : List ℕ) → Block u → Block b → ciph (xored (xored (inv b) u) u) ≡ b =
      λ u b q r. ap ciph (xored_twice (inv b) u) ∙ undoes b r.bytes r.long in
      ap (λ m. enciphered_blocks ciph (m / 16) v y) (length-deciphered inv keeps v x p.long e)
      ∙ (enciphered-turned ciph n v y
      ∙ (ap (turned (enciphers ciph) (enciphers ciph) n v) (deciphered-turned inv n v x)
      ∙ turn_back (deciphers inv) itself (enciphers ciph) (enciphers ciph) (gives-deciphered inv keeps bytes) gives-itself again again n v x p
      (whole x e) h))
