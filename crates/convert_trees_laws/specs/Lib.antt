pub mod Bounds
pub mod Entries
pub mod Held
pub mod Inodes
pub mod Keys
pub mod Names
pub mod Rows
pub mod Used
