pub use Rattle.btr_node.specs as btr_node
pub mod Gaps
pub mod Info
pub mod Laws
pub mod Runs
pub mod Stream
pub mod Told
pub mod Tree
