use Rattle.std.proofs.Common.{rules}
use Rattle.digest.proofs.Keys.{code_is_hmac}
use Rattle.digest.proofs.key_block.KeyBlock.code.Goals as goal

pub returns : goal.returns
returns c = record {
  value =
      code_is_hmac c.args.key.now c.args.message.now c.load.new.self c.masked_digest-inner.new.self
      c.masked_digest-inner.result c.masked_digest-bytes.result c.load.ensures c.masked_digest-inner.ensures.same
      c.masked_digest-inner.ensures.value c.masked_digest-bytes.ensures.value;
  cleared = search rules;
}
