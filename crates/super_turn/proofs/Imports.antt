-- What the proofs of super_turn import of std, of lower crates and of its specs.
pub use Rattle.std.proofs.Common.{Bool, Err, IsTrue, List, Ok, OnOk, Result, [], ap, arith, cond, drop, false, get_or-set_other, get_or-set_same, inl, inr, length, length-append, length-drop, length-take, nat_eq, not, refl, set, subst, sym, take, true, true≢false, ℕ, ⊎_elim, ◌++◌, ◌+◌, ◌-◌, ◌<◌, ◌^◌, ◌∙◌, ◌≡◌, ◌≢◌, ◌≤◌, ◌⊎◌}
pub use Rattle.std.proofs.lemmas.List.{append-nil, drop-drop, drop-take, drop_at, ext_get_or, get_or_past, length-set, set-get_or, take-take, take_at}
pub use Rattle.std.specs.Prelude.{codes, nat_le, nat_lt, ◌&&◌, ◌||◌}
pub use Rattle.byteorder.specs.Endian.{little_bytes, little_number}
pub use Rattle.byteorder.specs.Numbers.{length-bytes_low_first, little_from-take, little_number-reads_back}
pub use Rattle.outside.proofs.Phases.{left_one, left_then, left_unwritten}
pub use Rattle.outside.proofs.Sectors.{torn_alike, torn_first}
pub use Rattle.outside.proofs.Writes.{one_sync, one_write, then_writes, weaker_writes}
pub use Rattle.outside.specs.History.{History, Image, IsBlock, IsSettled, IsTorn, LeftSince, WritesOnly, block_at, clock, reads}
pub use Rattle.outside.specs.btrfs_format.declared.block.TheConstants.{SUPER_BLOCK}
pub use Rattle.outside.specs.vol_block.Format.{format, has_bytes_at}
pub use Rattle.super_turn.specs.Marked.{IsHalf, has_mark, is_half, mark, marked, marked_place, names_copy, with_first}
pub use Rattle.super_turn.specs.PutBack.{IsPuttingBack, copy_place, is_half_turned, put_back, super_before}
pub use Rattle.super_turn.specs.Turned.{IsStep, IsTurning, StandsWith}
