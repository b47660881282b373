pub use Rattle.btr_item_list.specs as btr_item_list
pub use Rattle.space_items.specs.btr_space_items as btr_space_items
pub use Rattle.btr_tree.specs.btrfs_format as btrfs_format
pub mod Answers
pub mod Row
pub mod Source
pub mod Trees
pub mod Writer
