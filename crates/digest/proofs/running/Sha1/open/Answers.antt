use Rattle.std.proofs.Common.{refl}
use Rattle.digest.specs.Running.{fresh, Fed}
use Rattle.digest.proofs.Joins.{absorb_nothing}
use Rattle.digest.proofs.running.Sha1.open.Goals as goal

pub returns : goal.returns
unfolding fresh Fed
returns c = record { value = refl; fed = absorb_nothing }
