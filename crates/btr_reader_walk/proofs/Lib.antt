pub use Rattle.btr_node.proofs as btr_node
pub mod Contents
pub mod Decides
pub mod Events
pub mod Imports
pub mod Judging
pub mod Mapping
pub mod Opening
pub mod Stacks
pub mod Subtrees
pub mod Visiting
pub mod Walking
