use Rattle.std.proofs.Common.{[], ◌++◌, drop, take, ap, ◌∙◌, append-nil}
use Rattle.hmac.specs.Hmac.{hmac}
use Rattle.octets.specs.Octets.{over}
use Rattle.algorithms.specs.HmacTerms.{over-front}
use Rattle.algorithms.proofs.hmac_integrity.HmacIntegrityIntegrity.check.Goals as goal

pub returns : goal.returns
returns g c =
    let head = c.args.head.now in
    let vector = c.args.vector.now in
    let text = c.args.text.now in
    let out = c.args.out.now in
    let mac = hmac g.H.Hash.digest g.H.Hash.block c.args.key.now in
    let n = c.min-n.result in
    let value =
    c.absorb_message.ensures.absorbed []
    ∙ (c.new-mac.ensures.keyed (head ++ (vector ++ (text ++ []))) ∙ ap (λ x. mac (head ++ (vector ++ x))) (append-nil text)) in
    record {
      check_value_then_old =
          ap (λ x. x ++ drop n out) (c.finish.ensures.check_value_over_the_start ∙ ap (λ x. over x (take n out)) value)
          ∙ over-front c.args.self.now.sizes.check n (mac (head ++ (vector ++ text))) out c.min-n.ensures;
    }
