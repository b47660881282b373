pub mod Choice
pub mod Disk
pub mod Done
pub mod Failures
pub mod Laws
pub mod Sink
pub mod Store
