-- The worked example, by computation.
use Rattle.std.proofs.Common.{refl}
use Rattle.image.specs.Bytes.{overlay}
use Rattle.image.specs.Images.{used_within, cell_image, strip_image}
use Rattle.image.specs.Examples.{Examples}

pub examples : Examples
unfolding overlay used_within cell_image strip_image
examples = record { cells_shown = refl; cells_written = refl; cells_long = refl; strips_shown = refl; strips_written = refl; strips_overused = refl }
