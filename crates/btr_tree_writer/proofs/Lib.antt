pub use Rattle.btr_item_list.proofs as btr_item_list
pub mod Imports
pub mod Others
pub mod Pushing
pub mod Rows
pub mod Steps
