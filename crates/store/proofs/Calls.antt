-- What comes of a write that passes all tests.
use Rattle.std.proofs.Common.{◌≡◌, ℕ, ◌<◌, List, length, set, arith}
use Rattle.std.proofs.lemmas.Bool.Decides.{nat_tests}
use Rattle.store.specs.declared.cell.Cell.{Cell}
use Rattle.store.specs.Cells.{at, written, write_cells}

pub answered_write : (cs : List Cell) (k : ℕ) → k < length cs → (v : List ℕ) → length v ≡ 20 → (cs' : List Cell) → 0 < (at cs k).left → cs' ≡ set cs k (written (at cs k) v) → cs' ≡ write_cells cs k v
answered_write cs k h v l cs' m e = grind (arith, nat_tests)
