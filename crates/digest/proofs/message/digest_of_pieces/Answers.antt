use Rattle.std.proofs.Common.{ap, ◌∙◌}
use Rattle.digest.specs.Running.{Running, finish}
use Rattle.digest.proofs.Joins.{finish-flat_map}
use Rattle.digest.proofs.message.digest_of_pieces.Goals as goal

pub returns : goal.returns
returns c = c.close.ensures.value ∙ (ap (λ (d : Running). finish d) c.fed.ensures ∙ finish-flat_map (λ p. p.now) c.args.pieces.now)
