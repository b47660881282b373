pub use Rattle.reiser_volume.specs as reiser_volume
pub mod Accepted
pub mod Laws
pub mod Nodes
pub mod Rows
pub mod Walk
