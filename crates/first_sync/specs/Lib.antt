pub use Rattle.outside.specs as outside
pub mod Laws
pub mod Synced
