use Rattle.std.proofs.Common.{◌∙◌, rules}
use Rattle.cbc.proofs.Directions.{deciphers, itself, deciphered_where_whole, last_given}
use Rattle.cbc.proofs.deciphering.decipher.Goals as goal

pub returns : goal.returns
returns g c =
    let f = g.B.BlockCipher.inverse c.args.schedule.now in
    let v = c.args.chain.now in
    let x = c.args.text.now in record {
      whether_in_whole_blocks = c.turn_blocks.ensures.whether_in_whole_blocks;
      deciphered = c.turn_blocks.ensures.each_block_turned (deciphers f) itself (record { leaves = λ v b v' b' long-v long-b post. search rules }) ∙ deciphered_where_whole v x f;
      last_block_of_ciphertext = c.turn_blocks.ensures.chain_of_the_last (deciphers f) itself (record { leaves = λ v b v' b' long-v long-b post. search rules }) ∙ last_given v x c.told-chain;
    }
