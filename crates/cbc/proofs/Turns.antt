-- Blocks turned in place one after the other: what is left gives the whole. Assumes nothing.
use Rattle.std.proofs.Common.{◌≡◌, ℕ, suc, ◌+◌, ◌-◌, ◌*◌, ◌<◌, ◌≤◌, List, ◌++◌, length, take, drop, sym, ap, ◌∙◌, append_assoc, arith}
use borrow.Rule.Slice.PartMut.{put_mid}
use Rattle.std.proofs.lemmas.List.{drop-drop}
use Rattle.std.proofs.lemmas.Slice.{take-put_mid, drop-put_mid}
use Rattle.cbc.specs.Turning.{Turn, turned, last_chain}

module _ (out next : Turn) (n : ℕ) (first all : List ℕ) where
  -- i of n blocks are turned, with the chain c and the text t: what is left gives the whole text and the last chain
  pub record Turning (i : ℕ) (c t : List ℕ) : Type 0 where
    pub text : take (16 * i) t ++ turned out next (n - i) c (drop (16 * i) t) ≡ turned out next n first all
    pub chain : last_chain next (n - i) c (drop (16 * i) t) ≡ last_chain next n first all

  pub turning_more : (i e : ℕ) (c d t b : List ℕ) → i < n → 16 * (i + 1) ≤ length t → e ≡ 16 * (i + 1) → length b ≡ 16
      → b ≡ out c (take (e - 16 * i) (drop (16 * i) t)) → d ≡ next c (take (e - 16 * i) (drop (16 * i) t))
      → Turning i c t → Turning (i + 1) d (put_mid (16 * i) (e - 16 * i) t b)
  turning_more i e c d t b h long end b-long b-is d-is so =
      let x = drop (16 * i) t in
      let size : e - 16 * i ≡ 16 = omega arith in
      let count : n - i ≡ suc (n - (i + 1)) = omega arith in
      let front : take (16 * (i + 1)) (put_mid (16 * i) (e - 16 * i) t b) ≡ take (16 * i) t ++ b =
      take-put_mid (16 * i) (e - 16 * i) t b (16 * (i + 1)) (omega arith) (omega arith) in
      let rest : drop (16 * (i + 1)) (put_mid (16 * i) (e - 16 * i) t b) ≡ drop 16 x =
      drop-put_mid (16 * i) (e - 16 * i) t b (16 * (i + 1)) (omega arith) (omega arith) (omega arith)
      ∙ (ap (λ j. drop j t) (omega arith) ∙ sym (drop-drop 16 (16 * i) t)) in
      let block = rw size at b-is in
      let chain = rw size at d-is in
      record {
        text = rw (front, rest) (append_assoc (take (16 * i) t) b _ ∙ (rw (block, chain) (rw count at so.text)));
        chain = rw (rest, chain) (rw count at so.chain);
      }
