-- What the proofs of reiser_node import of std, of lower crates and of its specs.
pub use Rattle.std.proofs.Common.{IsSome, List, None, Option, Some, add-one, ap, arith, is_some, not, refl, suc, sym, zero, ℕ, ◌*◌, ◌+◌, ◌<◌, ◌∙◌, ◌≡◌, ◌≤◌}
pub use Rattle.std.proofs.lemmas.Bool.Decides.{Decides-and, Decides-below_and, Decides-eqb, Decides-like, Decides-ltb, Decides-not, same_from_decides}
pub use Rattle.reiser_node.specs.Leaf.{IsItem, IsLeaf, body_end, body_length, count, each_below, head_place, is_item, is_leaf, level, location}
