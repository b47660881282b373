pub mod BtrfsLinks
pub mod BtrfsRows
pub mod Imports
pub mod Listing
pub mod Pairs
pub mod Reaching
pub mod ReiserRows
pub mod Sorting
