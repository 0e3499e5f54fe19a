use Rattle.std.proofs.Common.{◌∙◌}
use Rattle.digest.proofs.Computed.{empty_digest_lem}
use Rattle.digest.proofs.examples.digest_of_nothing.Goals as goal

pub returns : goal.returns
returns c = record { defined = empty_digest_lem; value = c.digest_of.ensures ∙ empty_digest_lem }
