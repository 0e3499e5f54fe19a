pub mod Bytes
pub mod Images
pub mod Kinds
pub mod Examples
