pub mod Castagnoli
