use Rattle.digest.proofs.Chained.{chain_folds}
use Rattle.digest.proofs.chain.chain_of.Goals as goal

pub returns : goal.returns
returns c = chain_folds c.args.digests.now c.extended_by.result c.extended_by.ensures
