pub mod ByKind
pub mod Deciding
pub mod Gone
pub mod Imports
