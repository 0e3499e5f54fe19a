use Rattle.std.proofs.Common.{rules}
use Rattle.digest.proofs.Differences.{decides_agreement}
use Rattle.digest.proofs.codes.Code.agrees.Goals as goal

pub returns : goal.returns
returns c = decides_agreement c.args.self.now.bytes c.args.other.now.bytes c.difference.result (search rules) c.difference.ensures
