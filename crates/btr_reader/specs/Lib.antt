pub use Rattle.btr_reader_walk.specs.btr_keys as btr_keys
pub use Rattle.btr_reader_walk.specs.btr_node as btr_node
pub use Rattle.btr_reader_contents.specs as btr_reader_contents
pub use Rattle.btr_reader_names.specs as btr_reader_names
pub use Rattle.btr_reader_walk.specs as btr_reader_walk
pub use Rattle.btr_space_items.specs as btr_space_items
pub use Rattle.btr_super.specs as btr_super
pub use Rattle.btr_reader_walk.specs.castagnoli as castagnoli
pub use Rattle.btr_reader_walk.specs.csum_kinds as csum_kinds
pub use Rattle.fs_paths.specs.fs_rows as fs_rows
pub use Rattle.btr_reader_walk.specs.outside as outside
pub use Rattle.btr_reader_walk.specs.refusals as refusals
pub use Rattle.btr_reader_walk.specs.vol_block as vol_block
pub use Rattle.btr_space_items.specs.btrfs_format as btrfs_format
pub mod Apart
pub mod Ascending
pub mod Chunks
pub mod FileNotes
pub mod Image
pub mod Laws
pub mod Made
pub mod MetadataLaws
pub mod Opening
pub mod Parts
pub mod Pieces
pub mod Reading
pub mod Roots
pub mod Rows
pub mod Volume
