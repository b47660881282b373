pub mod Laws
pub mod Recounted
pub mod Wholes
