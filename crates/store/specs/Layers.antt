-- What the layers show of the cells below.
use Rattle.std.specs.Prelude.{◌≡◌, ℕ, ◌+◌, ◌<◌, min, cond, List, length, take, drop, nat_le, slice_index, slice_index_or}
use Rattle.store.specs.declared.cell.Cell.{Cell}
use Rattle.store.specs.declared.refusal.Place.{Place}
use Rattle.store.specs.Refusals.{here, deeper}
use Rattle.store.specs.Cells.{cell, at}
use Rattle.store.specs.Tables.{table}

-- up to most cells, from cell first on
unfoldable pub window : ℕ → ℕ → List Cell → List Cell
window first most cs = take most (drop first cs)

abbrev pub window_place : ℕ → (ℕ → Place) → ℕ → Place
window_place first below k = deeper (below (first + k))

-- a cell with rest writes of its allowance not yet used: its writes left are the smaller of the two
abbrev pub allowed : ℕ → Cell → Cell
allowed rest c = cell c.value (min c.left rest)

-- the first 32 cells, each with its allowance
unfoldable pub guard : List ℕ → List Cell → List Cell
guard rest cs = table (min 32 (length cs)) (λ k. allowed (slice_index rest k) (at cs k))

-- the guard names itself where its allowance is used up no later than the cell below is worn
abbrev pub guard_place : List ℕ → List Cell → (ℕ → Place) → ℕ → Place
guard_place rest cs below k = cond (nat_le (slice_index rest k) (at cs k).left) (here k) (deeper (below k))

-- who is named where a write to cell k is refused as worn: the guard itself once the allowance is used up, and otherwise the place below, one layer further down
pub record Named (rest : List ℕ) (cs : List Cell) (below : ℕ → Place) (k : ℕ) : Type 0 where
  pub by_guard : slice_index_or rest k 0 ≡ 0 → guard_place rest cs below k ≡ here k
  pub by_below : 0 < slice_index rest k → (at cs k).left ≡ 0 → guard_place rest cs below k ≡ deeper (below k)

abbrev pub WornIsNamed : Type 0
WornIsNamed = (rest : List ℕ) (cs : List Cell) (below : ℕ → Place) (k : ℕ) → Named rest cs below k
