pub mod Bytes
pub mod Laws
pub mod Parts
pub mod Pieces
pub mod Runs
pub mod States
