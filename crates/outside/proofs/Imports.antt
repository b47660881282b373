-- What the proofs of outside import of std, of lower crates and of its specs.
pub use Rattle.std.proofs.Common.{Bool, Err, IsOk, IsTrue, List, None, Ok, OnErr, OnOk, Option, Result, Some, [], ap, append_assoc, arith, cond, drop, false, get_or, get_or-set_other, get_or-set_same, inl, inr, is_some, length, length-append, length-drop, nat_eq, refl, set, subst, suc, sym, take, take-append-drop, true, zero, ℕ, ⊎_elim, ◌*◌, ◌++◌, ◌+◌, ◌-◌, ◌<◌, ◌∙◌, ◌∷◌, ◌≡◌, ◌≢◌, ◌≤◌, ◌⊎◌}
pub use Rattle.std.proofs.lemmas.Bool.{cases_eq, cases_lt, eqb-true, ne_eqb}
pub use Rattle.std.proofs.lemmas.List.{drop-append-le, drop-drop, drop_at, ext_get_or, get_or-take, get_or_default, length-set, length-take}
pub use Rattle.std.specs.Prelude.{All, AllPairs, Any, Contains}
pub use Rattle.lru.specs.LruCache.{LruCache, promoted, put_entries}
pub use Rattle.outside.specs.Cache.{AreOf}
pub use Rattle.outside.specs.History.{Call, EachWrite, History, Image, IsBlock, IsSettled, IsTorn, IsWritten, LeftSince, MayLeave, Syncs, Waits, WritesBlock, WritesOnly, after, at_moment, block_at, calls_since, clock, reads, reads_from, sector, synced, synced_from, wrote}
pub use Rattle.vol_block.specs.declared.block.Block.{Block}
