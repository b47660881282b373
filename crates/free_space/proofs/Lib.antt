pub mod Apart
pub mod Fitting
pub mod Imports
pub mod Infos
pub mod Steps
pub mod Telling
pub mod Told
