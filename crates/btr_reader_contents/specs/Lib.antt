pub mod Blocks
pub mod Bytes
pub mod Contents
pub mod Extents
pub mod Gathering
pub mod Parts
pub mod States
