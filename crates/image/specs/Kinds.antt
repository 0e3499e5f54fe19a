-- Which kind of image bytes are, in numbers.
use Rattle.std.specs.Prelude.{ℕ, cond, List, codes, Some, None, Option}
use Rattle.image.specs.declared.kinds.Kind.{Kind}
use Rattle.image.specs.declared.kinds.Kind.TheVariants.{Cells, Strips}
use Rattle.image.specs.Images.{is_cell_image, is_strip_image}

abbrev pub kind_number : Option Kind → ℕ
kind_number None = 0
kind_number (Some Cells) = 1
kind_number (Some Strips) = 2

abbrev pub kind_name : Kind → List ℕ
kind_name Cells = codes "cell"
kind_name Strips = codes "strip"

-- no image, a cell image, a strip image
abbrev pub kind_in : List ℕ → ℕ
kind_in bs = cond (is_cell_image bs) 1 (cond (is_strip_image bs) 2 0)
