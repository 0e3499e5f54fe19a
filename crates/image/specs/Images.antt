-- The two kinds of image, and what they show. Bytes that are no image show no cells.
use Rattle.std.specs.Prelude.{ℕ, zero, suc, ◌+◌, ◌-◌, ◌*◌, Bool, true, cond, ◌&&◌, List, length, replicate, ◌==◌, nat_le, Vec}
use Rattle.std.specs.declared.alloc.Global.{Global}
use Rattle.store.specs.declared.cell.Cell.{Cell}
use Rattle.store.specs.Cells.{cell}
use Rattle.store.specs.Tables.{table}
use Rattle.image.specs.Bytes.{count_in, second_in, number, value, altered, blank}

-- what contracts see of an image, which tells all of it
pub record Contents : Type 0 where
  pub bytes : Vec ℕ Global

abbrev pub zeros : List ℕ
zeros = replicate 20 0

-- A cell image: the second number is 20, and each cell has its writes left and one value.
abbrev pub is_cell_image : List ℕ → Bool
is_cell_image bs = second_in bs == 20 && length bs == 4 + 22 * count_in bs

abbrev pub cell_count : List ℕ → ℕ
cell_count bs = cond (is_cell_image bs) (count_in bs) 0

unfoldable pub cell_image : List ℕ → List Cell
cell_image bs = table (cell_count bs) (λ k. cell (value bs k) (number bs k))

-- n cells of zeros
abbrev pub new_cells : ℕ → ℕ → List ℕ
new_cells n writes = blank n 20 writes n

-- the bytes after a write
abbrev pub cell_write : List ℕ → ℕ → List ℕ → List ℕ
cell_write bs k v = altered bs k (number bs k - 1) k v

-- A strip image: the second number is a width, and each cell has a used count and a strip of as many values, of which the used ones come first.
unfoldable pub used_within : List ℕ → ℕ → ℕ → Bool
used_within bs width zero = true
used_within bs width (suc k) = nat_le (number bs k) width && used_within bs width k

abbrev pub is_strip_image : List ℕ → Bool
is_strip_image bs = length bs == 4 + 2 * count_in bs + 20 * (count_in bs * second_in bs) && used_within bs (second_in bs) (count_in bs)

abbrev pub strip_count : List ℕ → ℕ
strip_count bs = cond (is_strip_image bs) (count_in bs) 0

-- place j of the strip of cell k
abbrev pub strip_place : List ℕ → ℕ → ℕ → ℕ
strip_place bs k j = k * second_in bs + j

abbrev pub strip_value : List ℕ → ℕ → List ℕ
strip_value bs k = cond (number bs k == 0) zeros (value bs (strip_place bs k (number bs k - 1)))

unfoldable pub strip_image : List ℕ → List Cell
strip_image bs = table (strip_count bs) (λ k. cell (strip_value bs k) (second_in bs - number bs k))

-- n cells of zeros, none of whose places is used
abbrev pub new_strips : ℕ → ℕ → List ℕ
new_strips n writes = blank n writes 0 (n * writes)

-- the bytes after a write: the next place is filled
abbrev pub strip_write : List ℕ → ℕ → List ℕ → List ℕ
strip_write bs k v = altered bs k (number bs k + 1) (strip_place bs k (number bs k)) v
