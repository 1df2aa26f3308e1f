-- Each turn writes one padding byte; then come PAD LENGTH and MUST BE ZERO.
use Rattle.std.proofs.Common.{◌≡◌, ◌+◌, ◌-◌, ◌++◌, length, drop, ◌∙◌, arith, rules}
use Rattle.std.proofs.lemmas.List.{length-append, length-drop, length-take-le, take-append-le}
use Rattle.padding.proofs.Trailer.{ramp_step, trailer_made}
use Rattle.padding.proofs.padding.fill_trailer.Goals as goal

pub loop-i-preserved : goal.loop-i-preserved
loop-i-preserved c = search (rules, ramp_step)

pub returns : goal.returns
returns c =
    let rest = c.args.rest.now in
    let p = length rest - 2 in
    let ramp = c.loop-i.byte-items in
    let long : length ramp ≡ p = c.loop-i.auto.byte-items ∙ length-take-le p rest (omega arith) in
    let turns : c.loop-i.i ≡ p = omega arith in
    let whole : length (ramp ++ drop p rest) ≡ p + 2 = simp (length-append, length-drop) (omega arith) in
    record {
      the_trailer = trailer_made (ramp ++ drop p rest) c.loop-i.i p turns whole
          (take-append-le c.loop-i.i ramp (drop p rest) (omega arith) ∙ c.loop-i.invariant);
    }
