-- What reading any store answers and leaves.
use Rattle.std.specs.Prelude.{ℕ, cond, List, ◌++◌, length, drop, Ok, Err, Result, nat_le}
use Rattle.store.specs.declared.cell.Cell.{Cell}
use Rattle.store.specs.Refusals.{Told, misfit}
use Rattle.store.specs.Cells.{at, present}

abbrev pub cell_answer : List Cell → ℕ → Result Cell Told
cell_answer cs k = present (length cs) k (Ok (at cs k))

-- where there is room for len cells only, the first that does not fit is a misfit
abbrev pub all_answer : List Cell → ℕ → Result ℕ Told
all_answer cs len = cond (nat_le (length cs) len) (Ok (length cs)) (Err (misfit len))

abbrev pub all_cells : List Cell → List Cell → List Cell
all_cells cs into = cond (nat_le (length cs) (length into)) (cs ++ drop (length cs) into) into
