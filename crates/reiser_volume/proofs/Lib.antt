pub use Rattle.fs_paths.proofs as fs_paths
pub use Rattle.reiser_bitmap.proofs.outside as outside
pub use Rattle.reiser_bitmap.proofs as reiser_bitmap
pub use Rattle.reiser_volume_objects.proofs.reiser_items as reiser_items
pub use Rattle.reiser_volume_objects.proofs.reiser_node as reiser_node
pub use Rattle.reiser_volume_contents.proofs as reiser_volume_contents
pub use Rattle.reiser_volume_files.proofs as reiser_volume_files
pub use Rattle.reiser_volume_names.proofs as reiser_volume_names
pub use Rattle.reiser_volume_objects.proofs as reiser_volume_objects
pub use Rattle.reiser_volume_objects.proofs.reiser_walk as reiser_walk
pub mod Answering
pub mod Bounds
pub mod Filing
pub mod Fronted
pub mod Holding
pub mod Imports
pub mod Keeping
pub mod Leading
pub mod Mapping
pub mod Numbered
pub mod OneRows
pub mod Owners
pub mod Placing
pub mod Reaching
pub mod Refusals
pub mod Rowed
pub mod SameItems
pub mod SameRows
pub mod Unchanged
pub mod Unplaced
