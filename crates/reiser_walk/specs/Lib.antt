pub use Rattle.reiser_bitmap.specs.outside as outside
pub use Rattle.reiser_items.specs as reiser_items
pub use Rattle.reiser_items.specs.reiser_node as reiser_node
pub use Rattle.reiser_items.specs.vol_block as vol_block
pub mod Answers
pub mod Bodies
pub mod Hand
pub mod Items
pub mod Laws
pub mod Marks
pub mod Rules
pub mod Tree
pub mod Walks
