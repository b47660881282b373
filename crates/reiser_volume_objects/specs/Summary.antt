-- What is kept of the items of one object.
use Rattle.std.specs.Prelude.{◌≡◌, ℕ, ◌≤◌, ◌<◌, nat_lt, max, Bool, true, false, ◌&&◌, ◌||◌, not, List, Option, Some, None, Contains, if◌then◌else◌}
use Rattle.std.specs.Option.{option_or}
use Rattle.std.specs.List.{list_any}
use Rattle.reiser_items.specs.reiser_node.declared.head.ItemKind.{ItemKind}
use Rattle.reiser_items.specs.reiser_node.declared.head.ItemKind.TheVariants.{Stat, Indirect, Direct, Directory}
use Rattle.reiser_items.specs.Entries.{are_entries}
use Rattle.reiser_walk.specs.Items.{ReiserItem}
use Rattle.fs_paths.specs.fs_rows.declared.row.Kind.{Kind}
use Rattle.reiser_volume_objects.specs.Kinds.{is_file, is_symlink, is_directory}
use Rattle.reiser_volume_objects.specs.declared.object.Object.{Object}
use Rattle.reiser_volume_files.specs.Bytes.{first_byte, byte_count, end_of}
use Rattle.reiser_volume_files.specs.Laws.{AreItemsApart}
use Rattle.reiser_volume_objects.specs.Items.{stat_by_kind, first_stat, IsOverlap}

abbrev pub has_pointers : ItemKind → Bool
has_pointers Stat = false
has_pointers Indirect = true
has_pointers Direct = false
has_pointers Directory = false

abbrev pub has_bytes : ItemKind → Bool
has_bytes Stat = false
has_bytes Indirect = false
has_bytes Direct = true
has_bytes Directory = false

abbrev pub has_entries : ItemKind → Bool
has_entries Stat = false
has_entries Indirect = false
has_entries Direct = false
has_entries Directory = true

-- where it is a directory item, it is on the grammar of entries
abbrev pub has_entry_form : ReiserItem → Bool
has_entry_form i = not (has_entries i.head.kind) || are_entries i.head.count i.body

abbrev pub HasForm : ReiserItem → Type 0
HasForm i = has_entry_form i ≡ true

-- The object's summary is that of these items. Where an overlap is kept, it is one as long as the items ascend.
pub record Summarises (o : Object) (items : List ReiserItem) : Type 0 where
  pub stat : o.stat ≡ first_stat items
  pub pointers : o.pointers ≡ list_any (λ i. has_pointers i.head.kind) items
  pub bytes : o.bytes ≡ list_any (λ i. has_bytes i.head.kind) items
  pub entries : o.entries ≡ list_any (λ i. has_entries i.head.kind) items
  pub covered : (i : ReiserItem) → Contains items i → end_of i ≤ o.covered
  pub reached : (b : ℕ) → b < o.covered → (i : ReiserItem) × Contains items i × (b < end_of i)
  pub formed : o.off_form ≡ None → (i : ReiserItem) → Contains items i → HasForm i
  pub off_form : (leaf : ℕ) → o.off_form ≡ Some leaf → (i : ReiserItem) × Contains items i × (has_entry_form i ≡ false) × (leaf ≡ i.leaf)
  pub apart : o.overlap ≡ None → AreItemsApart items
  pub overlap : (leaf : ℕ) → o.overlap ≡ Some leaf → IsOverlap items leaf

-- the leaf of an item that holds a byte below this one
abbrev pub overlap_at : ℕ → ReiserItem → Option ℕ
overlap_at covered i = if nat_lt 0 (byte_count i.head.kind i.body) && nat_lt (first_byte i) covered then Some i.leaf else None

-- the summary with one more item
abbrev pub with_item : Object → ReiserItem → Object
with_item o i = record {
  stat = option_or o.stat (stat_by_kind i.head.kind i);
  pointers = o.pointers || has_pointers i.head.kind;
  bytes = o.bytes || has_bytes i.head.kind;
  entries = o.entries || has_entries i.head.kind;
  covered = max o.covered (end_of i);
  overlap = option_or o.overlap (overlap_at o.covered i);
  off_form = option_or o.off_form (if has_entry_form i then None else Some i.leaf);
  first = o.first;
}

-- An object of this kind may have what the summary tells of.
abbrev pub fits_summary : Kind → Object → Bool
fits_summary kind o = (not o.pointers || is_file kind) && ((not o.bytes || (is_file kind || is_symlink kind)) && (not o.entries || is_directory kind))
