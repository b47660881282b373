pub use Rattle.convert_steps.proofs.btr_item_list as btr_item_list
pub use Rattle.unit_plan.proofs.btr_tree as btr_tree
pub use Rattle.convert_steps.proofs.command_answers as command_answers
pub use Rattle.convert_steps.proofs as convert_steps
pub use Rattle.extent_pieces.proofs as extent_pieces
pub use Rattle.convert_steps.proofs.file_items as file_items
pub use Rattle.convert_steps.proofs.space_items as space_items
pub use Rattle.unit_plan.proofs as unit_plan
pub mod Answering
pub mod Copying
pub mod Crashing
pub mod Ending
pub mod Imports
pub mod Moving
pub mod Nodes
pub mod One
pub mod Putting
pub mod Reserved
pub mod Slots
pub mod Standing
pub mod Sums
pub mod Wholeness
