pub mod Refusals
pub mod Cells
pub mod Tables
pub mod Layers
pub mod Reading
