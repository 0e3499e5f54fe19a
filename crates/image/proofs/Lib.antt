pub mod Overlays
pub mod Altered
pub mod CellImages
pub mod StripImages
pub mod Blanks
pub mod Computed
