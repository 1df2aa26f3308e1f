-- The bit at place 7 of a byte is all that is above the other seven.
use Rattle.std.proofs.Common.{◌≡◌, ℕ, ◌*◌, ◌/◌, ◌%◌, ◌<◌, ap, ◌∙◌, arith, rules}
use lib.Bits.{bit_xor}
use Rattle.fips197.specs.Field.{xtime}
use Rattle.fips197.proofs.Products.{product_2}
use Rattle.fips197.proofs.field.xtime.Goals as goal

pub returns : goal.returns
unfolding xtime
returns c =
    let b = c.args.b in
    let byte : b < 256 = search rules in
    let top : b / 128 ≡ b / 128 % 2 = omega arith in
    let times = ap (λ (t : ℕ). bit_xor (b * 2 % 256) (t * 0x1b)) top in
    record { times_x = times; product = times ∙ product_2 b }
