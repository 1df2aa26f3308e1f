-- Each byte is mixed from its column as the call says.
use Rattle.std.proofs.Common.{ℕ, ◌+◌, ◌%◌, get_or}
use Rattle.fips197.specs.State.{at}
use Rattle.fips197.proofs.States.{written_out}
use Rattle.fips197.proofs.state.mix_by.Goals as goal

pub returns : goal.returns
returns g c = record {
  columns_mixed = λ h says.
      let s = c.args.s.now in
      let byte = λ (i j k l r : ℕ) (post : g.F.Fn.post c.args.mix (get_or s i 0, (get_or s j 0, (get_or s k 0, (get_or s l 0, tt)))) r).
      says.gives (get_or s i 0) (get_or s j 0) (get_or s k 0) (get_or s l 0) r (c.fits-s i) (c.fits-s j) (c.fits-s k) (c.fits-s l) post in
      written_out (λ r k. h (at s r k) (at s ((r + 1) % 4) k) (at s ((r + 2) % 4) k) (at s ((r + 3) % 4) k)) (byte _ _ _ _ _ c.mix.ensures) (byte _ _ _ _ _ c.mix-2.ensures) (byte _ _ _ _ _ c.mix-3.ensures) (byte _ _ _ _ _ c.mix-4.ensures) (byte _ _ _ _ _ c.mix-5.ensures) (byte _ _ _ _ _ c.mix-6.ensures) (byte _ _ _ _ _ c.mix-7.ensures) (byte _ _ _ _ _ c.mix-8.ensures) (byte _ _ _ _ _ c.mix-9.ensures) (byte _ _ _ _ _ c.mix-10.ensures) (byte _ _ _ _ _ c.mix-11.ensures) (byte _ _ _ _ _ c.mix-12.ensures) (byte _ _ _ _ _ c.mix-13.ensures) (byte _ _ _ _ _ c.mix-14.ensures) (byte _ _ _ _ _ c.mix-15.ensures) (byte _ _ _ _ _ c.mix-16.ensures);
}
