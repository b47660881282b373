-- What the proofs of reiser_super import of std, of lower crates and of its specs.
pub use Rattle.std.proofs.Common.{Bool, IsTrue, List, [], ap, arith, cond, false, get_or, length, map, refl, subst, suc, sym, true, zero, ℕ, ◌+◌, ◌<◌, ◌^◌, ◌∙◌, ◌∷◌, ◌≡◌, ◌≤◌}
pub use Rattle.std.proofs.lemmas.Bool.{and_from, and_parts, eq-eqb, eqb-true, le-leb, leb-true, lt-ltb, ltb-true, not-true, not_from_false}
pub use Rattle.std.proofs.lemmas.List.FromFn.{filter_of_map_range_with_len_more, get_or-map-range_with_len, length-map-range_with_len}
pub use Rattle.std.specs.List.{range_with_len}
pub use Rattle.std.specs.Prelude.{Contains, IfErr, None, OnOk, Option, Some, filter}
pub use Rattle.refusals.specs.outside.History.{Image, block_at}
pub use Rattle.reiser_super.specs.Journal.{commit_place, commits, is_descriptor, is_newer, last_flushed, log_block, next_place, transaction, transaction_length}
unfoldable pub use Rattle.reiser_super.specs.Journal.{all_transactions, names_place, pending_transactions, waiting_at}
pub use Rattle.reiser_super.specs.Rules.{IsCleanSuper, IsInBounds, is_in_bounds, superblock_refusal}
pub use Rattle.reiser_super.specs.declared.superblock.Super.{Super}
