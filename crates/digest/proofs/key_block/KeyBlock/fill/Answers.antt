use Rattle.std.proofs.Common.{length, refl}
use Rattle.digest.proofs.Keys.{filled}
use Rattle.digest.proofs.key_block.KeyBlock.fill.Goals as goal

pub returns : goal.returns
returns c = filled c.args.key.now _ 64 (length c.args.key.now) c.copy_from_slice.ensures.after refl
