pub use Rattle.btr_reader.specs as btr_reader
pub use Rattle.free_space.specs as free_space
pub mod Extents
pub mod Files
pub mod FreeSpace
pub mod Groups
pub mod Inodes
pub mod Names
pub mod Nodes
pub mod Places
pub mod Plain
pub mod Recount
pub mod References
pub mod RootFiles
pub mod Sound
pub mod Sums
pub mod Trees
pub mod Walk
