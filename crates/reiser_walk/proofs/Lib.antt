pub use Rattle.reiser_items.proofs as reiser_items
pub mod Claims
pub mod Damages
pub mod Events
pub mod Given
pub mod Imports
pub mod Lists
pub mod Paths
pub mod Rules
pub mod Standing
pub mod Taking
pub mod Walking
