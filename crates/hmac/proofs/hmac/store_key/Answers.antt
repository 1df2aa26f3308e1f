use Rattle.std.proofs.Common.{◌≡◌, arith, rules}
use Rattle.octets.specs.Octets.{zeros}
use Rattle.hmac.proofs.KeyBlock.{short-key, long-key}
use Rattle.hmac.proofs.hmac.store_key.Goals as goal

pub returns-then-key-room : goal.returns-then-key-room
returns-then-key-room g c =
    let cleared : c.fill.new.self ≡ zeros g.H.Hash.block = search rules in
    record { the_key_block = short-key g.H.Hash.digest g.H.Hash.block c.args.key.now _ _ (omega arith) c.copy_from_slice.ensures.after cleared }

pub returns-else-key-room : goal.returns-else-key-room
returns-else-key-room g c =
    let s = g.met.H.Hash.sized c.args.key.now in
    let f = g.met.H.Hash.fitting in
    let k = long-key g.H.Hash.digest g.H.Hash.block c.args.key.now (omega arith) (omega arith) in
    search rules
