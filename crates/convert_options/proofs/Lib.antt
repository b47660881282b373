pub mod Asking
pub mod Imports
pub mod OneByOne
