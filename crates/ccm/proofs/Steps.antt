-- The steps of sealing and opening, over plain lists. Assumes nothing.
use Rattle.std.proofs.Common.{◌≡◌, ℕ, ◌+◌, ◌-◌, ◌≤◌, Bool, true, false, cond, List, ◌++◌, length, take, drop, Some, None, Ok, Err, sym, refl, ap, ◌∙◌, append_assoc, arith}
use Rattle.std.specs.Option.{ok_or}
use Rattle.std.proofs.lemmas.List.{length-append, length-take-le, length-replicate, drop-drop}
use Rattle.octets.specs.Octets.{over, zeros, same}
use Rattle.octets.proofs.Octets.{over-fits}
use Rattle.ccm.specs.Ccm.{masked, check_value, sealed, opened}
use Rattle.ccm.specs.Calls.{counted, output_after}
use Rattle.ccm.specs.declared.fault.Fault.TheVariants.{Mismatch}
use Rattle.ccm.specs.Parts.{whole_check}
use Rattle.ccm.proofs.Chains.{check_is}
use Rattle.ccm.proofs.Sizes.{length-masked}

-- xs is written over the start of ys, as far as n bytes
written_front : (n : ℕ) (xs ys : List ℕ) → length xs ≡ n → n ≤ length ys → xs ++ drop n ys ≡ over xs ys
written_front n xs ys long room = sym (over-fits xs ys (omega arith) ∙ rw long refl)

module _ (e : List ℕ → List ℕ) (nonce aad : List ℕ) (t : ℕ) where
  -- the check value, as the first bytes of a block
  pub check_part : (value xs : List ℕ) → value ≡ whole_check e t nonce aad xs → take t value ≡ check_value e t nonce aad xs
  check_part value xs is = ap (take t) is ∙ check_is e t nonce aad xs

  -- n bytes are masked, and the check value is written behind them
  pub sealed_is : (n : ℕ) (out text rest value : List ℕ) → length (check_value e t nonce aad (take n out)) ≡ t → n + t ≤ length out
      → text ≡ masked e nonce (take n out) → rest ≡ drop n out → value ≡ check_value e t nonce aad (take n out)
      → text ++ (value ++ drop t rest) ≡ over (sealed e t nonce aad (take n out)) out
  unfolding sealed
  sealed_is n out text rest value few room text-is rest-is value-is =
      let m = masked e nonce (take n out) in
      let v = check_value e t nonce aad (take n out) in
      let both : length (m ++ v) ≡ n + t = length-append m v ∙ omega (arith, length-masked e nonce (take n out), length-take-le n out (omega arith)) in
      rw (text-is, rest-is, value-is) (rw (drop-drop t n out) (sym (append_assoc m v (drop (n + t) out)) ∙ written_front (n + t) (m ++ v) out both (omega arith)))

  -- what opening comes to, by whether the check value is right
  pub opened_is : (y : List ℕ) → let x = masked e nonce (take (length y - t) y) in
      opened e t nonce aad y ≡ cond (same (drop (length y - t) y) (check_value e t nonce aad x)) (Some x) None
  unfolding opened
  opened_is y = refl

pub opened_counted : (b : Bool) (n : ℕ) (x : List ℕ) → n ≡ length x → cond b (Ok n) (Err Mismatch) ≡ counted (ok_or (cond b (Some x) None) Mismatch)
opened_counted true n x long = ap Ok long
opened_counted false n x long = refl

pub opened_left : (b : Bool) (n k : ℕ) (x out : List ℕ) → length x ≡ n → k ≡ n → n ≤ length out
    → cond b x (zeros k) ++ drop n out ≡ output_after (ok_or (cond b (Some x) None) Mismatch) n out
opened_left true n k x out long same-long room = written_front n x out long room
opened_left false n k x out long same-long room = rw same-long (written_front n (zeros n) out (length-replicate n 0) room)
