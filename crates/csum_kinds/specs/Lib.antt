pub use Rattle.castagnoli.specs as castagnoli
pub mod Kind
