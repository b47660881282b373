pub use Rattle.btr_check_rules.specs as btr_check_rules
pub mod Hashes
pub mod Inodes
pub mod Lists
pub mod Marks
pub mod Rings
pub mod Table
