use Rattle.digest.proofs.Keys.{long_key, short_key}
use Rattle.digest.proofs.key_block.KeyBlock.load.Goals as goal

pub returns-then-key-gt64 : goal.returns-then-key-gt64
returns-then-key-gt64 c = long_key c.args.key.now c.digest_of-short.result _ c.if-key-gt64.true c.digest_of-short.ensures c.fill.ensures

pub returns-else-key-gt64 : goal.returns-else-key-gt64
returns-else-key-gt64 c = short_key c.args.key.now _ c.if-key-gt64.false c.fill-else-key-gt64.ensures
