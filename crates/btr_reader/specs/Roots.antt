-- The trees of a volume, as the root tree names them.
use Rattle.std.specs.Prelude.{◌≡◌, ℕ, nat_lt, nat_eq, if◌then◌else◌, List, [], ◌∷◌, Option, Some, None}
use Rattle.std.specs.Option.{option_and_then}
use Rattle.indexmap.specs.IndexMap.{get}
use Rattle.indexmap.specs.IndexSet.{contains}
use Rattle.btr_space_items.specs.RootItem.{root_item_of}
use Rattle.btr_space_items.specs.declared.root_item.RootItem.{RootItem}
use Rattle.btr_reader_walk.specs.declared.tree.NodePointer.{NodePointer}
use Rattle.btr_reader_walk.specs.Events.{TreeItem}
use Rattle.btr_reader_names.specs.Roots.{is_root_of, has_root}
use Rattle.btr_reader.specs.declared.roots.RootFound.{RootFound}
use Rattle.btr_reader.specs.declared.roots.RootItems.{RootItems}

-- the last one of some, or another before them
abbrev pub last_or : Option TreeItem → Option TreeItem → Option TreeItem
last_or None first = first
last_or (Some i) first = Some i

-- The root item of a tree: of several the last one, which has the greatest offset.
abbrev pub root_item : ℕ → List TreeItem → Option TreeItem
root_item number [] = None
root_item number (i ∷ items) = last_or (root_item number items) (if is_root_of number i then Some i else None)

-- the pointer to a tree's root that a body gives; no tree has more than seven levels above its leaves
abbrev pub root_pointer : RootItem → Option NodePointer
root_pointer r = if nat_lt 7 r.level then None else Some (record { address = r.bytenr; level = r.level; generation = r.generation })

abbrev pub pointer_of : List ℕ → Option NodePointer
pointer_of body = option_and_then root_pointer (root_item_of body)

-- a root item that was found, by its leaf and its pointer
abbrev pub TellsRoot : Option RootFound → Option TreeItem → Type 0
TellsRoot None None = Unit {0}
TellsRoot None (Some i) = ⊥
TellsRoot (Some f) None = ⊥
TellsRoot (Some f) (Some i) = (f.leaf ≡ i.leaf) × (f.pointer ≡ pointer_of i.body)

abbrev pub found_root : RootItems → ℕ → Option RootFound
found_root t number = get nat_eq t.found number

-- These items of the root tree were noted.
pub record HasRoots (t : RootItems) (items : List TreeItem) : Type 0 where
  pub each : (number : ℕ) → TellsRoot (found_root t number) (root_item number items)
  pub numbers : (number : ℕ) → contains nat_eq t.numbers number ≡ has_root items number
