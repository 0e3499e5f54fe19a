-- Two cells in both kinds of image, before and after a write of 11.. to the first: it holds aa.. with three writes left, and the second holds bb.. with none.
use Rattle.std.specs.Prelude.{◌≡◌, ℕ, List, [], ◌∷◌, ◌++◌, replicate}
use Rattle.store.specs.declared.cell.Cell.{Cell}
use Rattle.store.specs.Cells.{cell}
use Rattle.image.specs.Images.{cell_image, cell_write, strip_image, strip_write}

abbrev pub twenty : ℕ → List ℕ
twenty b = replicate 20 b

abbrev pub two_cells : List Cell
two_cells = cell (twenty 0xaa) 3 ∷ cell (twenty 0xbb) 0 ∷ []

abbrev pub cell_bytes : ℕ → ℕ → List ℕ
cell_bytes left first = 0 ∷ 2 ∷ 0 ∷ 20 ∷ 0 ∷ left ∷ 0 ∷ 0 ∷ (twenty first ++ twenty 0xbb)

-- strips of four, of which the second is full
abbrev pub strip_bytes : ℕ → ℕ → List ℕ
strip_bytes used second =
    0 ∷ 2 ∷ 0 ∷ 4 ∷ 0 ∷ used ∷ 0 ∷ 4 ∷ ((twenty 0xaa ++ (twenty second ++ (twenty 0 ++ twenty 0))) ++ (twenty 0x88 ++ (twenty 0x99 ++ (twenty 0x9a ++ twenty 0xbb))))

pub record Examples : Type 0 where
  pub cells_shown : cell_image (cell_bytes 3 0xaa) ≡ two_cells
  pub cells_written : cell_write (cell_bytes 3 0xaa) 0 (twenty 0x11) ≡ cell_bytes 2 0x11
  pub cells_long : cell_image (cell_bytes 3 0xaa ++ 0 ∷ []) ≡ []
  pub strips_shown : strip_image (strip_bytes 1 0) ≡ two_cells
  pub strips_written : strip_write (strip_bytes 1 0) 0 (twenty 0x11) ≡ strip_bytes 2 0x11
  pub strips_overused : strip_image (strip_bytes 5 0) ≡ []
