use Rattle.std.proofs.Common.{◌+◌, ◌-◌, length, rules}
use Rattle.digest.proofs.Feeding.{keep_absorbs}
use Rattle.digest.proofs.running.Sha1.keep.Goals as goal

pub returns : goal.returns
returns c =
    let d = c.self.inside in
    let fill = c.fill-fill.result in
    keep_absorbs d.words d.block d.total c.args.self (search rules) c.self.view_is fill c.args.piece.now c.copy_from_slice.new.self
    c.fill-fill.ensures.value c.copy_from_slice.ensures.after (fill + length c.args.piece.now - fill) c.requires
