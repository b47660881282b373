-- Which bodies fit their heads, as ReiserFS 3.6 has them. What a directory item holds is not looked at here.
use Rattle.std.specs.Prelude.{ℕ, ◌%◌, ◌^◌, ◌==◌, nat_le, Bool, true, ◌&&◌, ◌||◌, List, is_some}
use Rattle.reiser_bitmap.specs.reiserfs_format.declared.key.TheConstants.{MAX_KEY_OBJECTID}
use Rattle.reiser_items.specs.reiser_node.declared.head.ItemHead.{ItemHead}
use Rattle.reiser_items.specs.reiser_node.declared.head.ItemKind.{ItemKind}
use Rattle.reiser_items.specs.reiser_node.declared.head.ItemKind.TheVariants.{Stat, Indirect, Direct, Directory}
use Rattle.reiser_items.specs.Pointers.{pointers_of}
use Rattle.reiser_items.specs.Stat.{stat_of}

-- a save link: an item of the list of files to be removed or cut when the volume is next mounted
abbrev pub is_save_link : ItemHead → Bool
is_save_link head = head.dir == MAX_KEY_OBJECTID

-- Stat data is at offset 0 and on its grammar. A list of pointers is for whole blocks of a file, and offsets of a file
-- begin with 1.
abbrev pub fits_kind : ItemKind → ItemHead → List ℕ → Bool
fits_kind Stat head body = (head.offset == 0) && is_some (stat_of head.old body)
fits_kind Indirect head body = (head.offset % 4096 == 1) && is_some (pointers_of body)
fits_kind Direct head body = nat_le 1 head.offset
fits_kind Directory head body = true

-- the offset and the body fit the kind, and the offset is at most 2^45; of save links nothing is asked
abbrev pub is_body : ItemHead → List ℕ → Bool
is_body head body = is_save_link head || (fits_kind head.kind head body && nat_le head.offset (2 ^ 45))
