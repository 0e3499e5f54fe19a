use Rattle.std.proofs.Common.{◌∙◌}
use Rattle.digest.proofs.Computed.{abc_digest_lem}
use Rattle.digest.proofs.examples.digest_of_abc.Goals as goal

pub returns : goal.returns
returns c = record { defined = abc_digest_lem; value = c.digest_of.ensures ∙ abc_digest_lem }
