use Rattle.std.proofs.Common.{rules}
use Rattle.std.proofs.lemmas.List.{take_all}
use Rattle.block.proofs.Sums.{xored-nil, xored_more, xored_all}
use Rattle.block.proofs.xor.xor_over.Goals as goal

pub loop-i-init : goal.loop-i-init
loop-i-init c = search (rules, xored-nil)

pub loop-i-preserved : goal.loop-i-preserved
loop-i-preserved c = search (rules, xored_more)

pub returns : goal.returns
returns c = search (rules, take_all, xored_all)
