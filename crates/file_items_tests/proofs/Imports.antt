-- What the proofs of file_items_tests import of std, of lower crates and of its specs.
pub use Rattle.std.proofs.Common.{Bool, List, ap, false, refl, subst, ◌∙◌, ◌≡◌}
pub use Rattle.file_items.specs.Stream.{FitsStream}
