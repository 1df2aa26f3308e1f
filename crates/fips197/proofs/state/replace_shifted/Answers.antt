-- Each byte is replaced as the call says.
use Rattle.std.proofs.Common.{◌≡◌, ℕ, ◌+◌, ◌*◌, ◌%◌, get_or, ap, ◌∙◌, arith}
use Rattle.fips197.proofs.States.{written_out}
use Rattle.fips197.proofs.state.replace_shifted.Goals as goal

pub returns : goal.returns
returns g c = record {
  each_byte = λ h says.
      let s = c.args.s.now in
      let step = g.row.STEP in
      let first : 0 ≡ step * 0 % 16 = omega arith in
      let second : step ≡ step * 1 % 16 = omega arith in
      let byte = λ (i : ℕ) (r : ℕ) (post : g.F.Fn.post c.args.replace (get_or s i 0, tt) r). says.gives (get_or s i 0) r (c.fits-s i) post in
      written_out (λ r k. h (get_or s (step * (4 * k + r) % 16) 0)) (byte 0 _ c.replace.ensures ∙ ap (λ i. h (get_or s i 0)) first)
      (byte step _ c.replace-2.ensures ∙ ap (λ i. h (get_or s i 0)) second) (byte _ _ c.replace-3.ensures) (byte _ _ c.replace-4.ensures) (byte _ _ c.replace-5.ensures) (byte _ _ c.replace-6.ensures) (byte _ _ c.replace-7.ensures) (byte _ _ c.replace-8.ensures) (byte _ _ c.replace-9.ensures) (byte _ _ c.replace-10.ensures) (byte _ _ c.replace-11.ensures) (byte _ _ c.replace-12.ensures) (byte _ _ c.replace-13.ensures) (byte _ _ c.replace-14.ensures) (byte _ _ c.replace-15.ensures) (byte _ _ c.replace-16.ensures);
}
