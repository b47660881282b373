pub use Rattle.reiser_volume_names.specs.castagnoli as castagnoli
pub use Rattle.fs_rows.specs as fs_rows
pub use Rattle.reiser_bitmap.specs.outside as outside
pub use Rattle.reiser_bitmap.specs.refusals as refusals
pub use Rattle.reiser_bitmap.specs as reiser_bitmap
pub use Rattle.reiser_volume_objects.specs.reiser_items as reiser_items
pub use Rattle.reiser_volume_objects.specs.reiser_node as reiser_node
pub use Rattle.reiser_super.specs as reiser_super
pub use Rattle.reiser_volume_contents.specs as reiser_volume_contents
pub use Rattle.reiser_volume_files.specs as reiser_volume_files
pub use Rattle.reiser_volume_names.specs as reiser_volume_names
pub use Rattle.reiser_volume_objects.specs as reiser_volume_objects
pub use Rattle.reiser_volume_objects.specs.reiser_walk as reiser_walk
pub use Rattle.reiser_bitmap.specs.vol_block as vol_block
pub use Rattle.reiser_super.specs.reiserfs_format as reiserfs_format
pub mod Answers
pub mod Bounds
pub mod Front
pub mod Inline
pub mod Laws
pub mod Made
pub mod Marks
pub mod Numbers
pub mod Opened
pub mod Owners
pub mod Reading
pub mod Rows
pub mod Volume
pub mod Ways
