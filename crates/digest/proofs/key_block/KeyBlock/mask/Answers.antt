use Rattle.std.proofs.Common.{◌≡◌, length, arith, rules}
use Rattle.digest.proofs.Keys.{masked_more}
use Rattle.digest.proofs.key_block.KeyBlock.mask.Goals as goal

pub loop-b-preserved : goal.loop-b-preserved
loop-b-preserved c =
    let n : length c.self.inside.bytes ≡ 64 = search rules in
    masked_more c.args.by c.self.inside.bytes c.loop-b.b-items c.loop-b.b-index (omega arith) c.loop-b.invariant
