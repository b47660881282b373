pub mod Extents
pub mod Laws
pub mod Moved
pub mod Reserved
pub mod Saved
pub mod GoingBack
pub mod Using
