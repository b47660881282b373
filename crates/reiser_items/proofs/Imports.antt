-- What the proofs of reiser_items import of std, of lower crates and of its specs.
pub use Rattle.std.proofs.Common.{List, Some, ap, arith, drop, length, refl, slice_get, suc, sym, zero, ℕ, ◌*◌, ◌+◌, ◌-◌, ◌/◌, ◌<◌, ◌∙◌, ◌≡◌, ◌≤◌}
pub use Rattle.std.proofs.lemmas.Bool.Decides.{Decides-and, Decides-below_and, Decides-like, Decides-ltb, Decides-not, same_from_decides}
pub use Rattle.reiser_items.specs.Entries.{AreEntries, EntryValue, IsEntry, are_entries, area_end, entries, entries_from, entry_at, is_entry, is_of_name, location}
