use Rattle.std.proofs.Common.{ℕ, List, ◌++◌, ap, ◌∙◌}
use Rattle.digest.specs.Sha1.{sha1}
use Rattle.digest.specs.Hmac.{masked}
use Rattle.digest.proofs.Keys.{masked_twice}
use Rattle.digest.proofs.key_block.KeyBlock.masked_digest.Goals as goal

pub returns : goal.returns
returns c = record {
  value =
      c.close-digest.ensures.digest _ (c.feed-2.ensures.fed _ (c.feed.ensures.fed _ c.open.ensures.fed))
      ∙ ap (λ (x : List ℕ). sha1 (x ++ c.args.message.now)) (c.bytes.ensures ∙ c.mask.ensures);
  same = c.mask-2.ensures ∙ (ap (λ (x : List ℕ). masked c.args.by x) c.mask.ensures ∙ masked_twice c.args.by c.args.self.now);
}
