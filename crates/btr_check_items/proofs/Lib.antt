pub mod Deciding
pub mod ExtentItems
pub mod ExtentRules
pub mod Imports
pub mod ReservedRules
pub mod RunRules
