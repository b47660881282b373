pub use Rattle.reiser_node.proofs as reiser_node
pub mod Grammar
pub mod Imports
pub mod Lists
