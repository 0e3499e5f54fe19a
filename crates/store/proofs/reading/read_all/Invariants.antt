use Rattle.std.proofs.Common.{◌≡◌, take}
use Rattle.store.proofs.reading.read_all.Given as goal

abbrev pub invariant-loop-cell : goal.invariant-loop-cell
invariant-loop-cell g l = take l.cell l.slot-items ≡ take l.cell (g.S.Store.cells l.store)
