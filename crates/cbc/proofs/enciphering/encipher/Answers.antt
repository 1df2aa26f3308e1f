use Rattle.std.proofs.Common.{◌∙◌, rules}
use Rattle.cbc.proofs.Directions.{enciphers, enciphered_where_whole, last_enciphered}
use Rattle.cbc.proofs.enciphering.encipher.Goals as goal

pub returns : goal.returns
returns g c =
    let w = c.args.schedule.now in
    let f = g.B.BlockCipher.forward w in
    let v = c.args.chain.now in
    let x = c.args.text.now in
    let e = enciphers f in record {
      whether_in_whole_blocks = c.turn_blocks.ensures.whether_in_whole_blocks;
      enciphered = c.turn_blocks.ensures.each_block_turned e e (record { leaves = λ v b v' b' long-v long-b post. search rules }) ∙ enciphered_where_whole f v x;
      last_block_of_ciphertext =
          c.turn_blocks.ensures.chain_of_the_last e e (record { leaves = λ v b v' b' long-v long-b post. search rules }) ∙ last_enciphered f v x (g.met.B.BlockCipher.forward_keeps_length w) c.told-chain;
    }
