pub mod AllUses
mod Alone
pub mod Among
pub mod Apart
mod Assembling
pub mod BlockGroups
mod Bodies
mod Checksums
pub mod ChunkList
mod DataItems
mod Entered
mod FileExtents
mod FileInodes
mod Fits
pub mod Flags
mod HavingNames
pub mod InMerged
mod Inodes
mod KeptFiles
mod Keyed
mod Listed
pub mod Lists
mod MetOnce
mod NameLists
mod Names
pub mod Nodes
pub mod Numbers
mod Objects
mod OwnKinds
mod Parts
pub mod Recounting
mod References
mod RootTree
pub mod Row
mod Runs
mod Saved
mod SavedRefs
mod Small
pub mod Stripes
mod SumItems
mod Telling
mod Told
pub mod Totals
mod TreeRules
pub mod Trees
pub mod Unreserved
pub mod Used
pub mod Uses
pub mod Within
