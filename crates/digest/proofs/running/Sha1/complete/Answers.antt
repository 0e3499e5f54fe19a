use Rattle.std.proofs.Common.{refl, rules}
use Rattle.digest.proofs.Feeding.{complete_absorbs}
use Rattle.digest.proofs.running.Sha1.complete.Goals as goal

pub returns-clause-fed : goal.returns-clause-fed
returns-clause-fed c =
    let d = c.self.inside in
    complete_absorbs d.words d.block d.total c.args.self (search rules) c.self.view_is c.fill-fill.result c.args.piece.now c.copy_from_slice.new.self
    c.fill-fill.ensures.value c.copy_from_slice.ensures.after c.compressed-self-inside.result _ c.requires refl c.compressed-self-inside.ensures
