pub use Rattle.btr_reader_walk.proofs.btr_keys as btr_keys
pub use Rattle.btr_reader_walk.proofs.btr_node as btr_node
pub use Rattle.btr_super.proofs.csum_kinds as csum_kinds
pub use Rattle.fs_paths.proofs as fs_paths
pub mod Adding
pub mod Among
pub mod Answered
pub mod Array
pub mod ArrayBack
pub mod Bridging
pub mod Chosen
pub mod Decided
pub mod EntryItems
pub mod Gathering
pub mod Imports
pub mod Known
pub mod MapApart
pub mod MapBlocks
pub mod NoLogs
pub mod Nodes
pub mod NotedRoots
pub mod Noting
pub mod OneExtent
pub mod OneRows
pub mod Opens
pub mod PartsRead
pub mod RootNames
pub mod RowContents
pub mod RowMade
pub mod Rowed
pub mod SameItems
pub mod Searching
pub mod Stages
pub mod Supers
pub mod Volumes
