use Rattle.hmac.proofs.CheckValue.{keyed}
use Rattle.hmac.proofs.hmac.Hmac.new.Goals as goal

pub returns : goal.returns
returns g c =
    record {
      keyed = keyed g.H.Hash.digest (g.H.Hash.after c.begun_in.result.inner)
          (g.H.Hash.after c.begun_in.result.outer) g.H.Hash.block g.H.Hash.size c.args.key.now
          g.met.H.Hash.sized c.begun_in.ensures.inner_begun c.begun_in.ensures.outer_begun;
    }
