pub use Rattle.convert_steps.specs.btr_item_list as btr_item_list
pub use Rattle.unit_plan.specs.btr_tree as btr_tree
pub use Rattle.btr_tree_writer.specs as btr_tree_writer
pub use Rattle.convert_steps.specs.command_answers as command_answers
pub use Rattle.unit_plan.specs.convert_options as convert_options
pub use Rattle.convert_steps.specs as convert_steps
pub use Rattle.convert_trees_laws.specs as convert_trees_laws
pub use Rattle.extent_pieces.specs as extent_pieces
pub use Rattle.convert_steps.specs.file_items as file_items
pub use Rattle.convert_steps.specs.space_items as space_items
pub use Rattle.unit_plan.specs as unit_plan
pub mod Answers
pub mod Converted
pub mod Copied
pub mod Laws
pub mod Surveyed
pub mod Whole
