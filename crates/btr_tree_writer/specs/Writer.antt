-- What a writer of a tree holds.
use Rattle.std.specs.Prelude.{◌≡◌, ℕ, ◌+◌, ◌*◌, ◌^◌, ◌≤◌, ◌<◌, false, List, [], ◌∷◌, length, Option, Some, None, All}
use Rattle.btr_tree.specs.outside.History.{Image}
use Rattle.btr_tree.specs.btr_keys.Key.{IsBefore}
use Rattle.btr_tree.specs.btr_keys.declared.key.Key.{Key}
use Rattle.btr_tree.specs.btr_node.Leaf.{Item}
use Rattle.btr_tree.specs.Builder.{Holds, Stands, pushed_on}
use Rattle.btr_tree.specs.Counting.{Counted, Tally, bytes_of, tree_nodes}
use Rattle.btr_tree.specs.declared.climb.Root.{Root}
use Rattle.btr_tree.specs.Packing.{capacity}
use Rattle.btr_tree.specs.Roots.{lengths_of}
use Rattle.btr_tree.specs.Slots.{SlotLists}
use Rattle.btr_tree.specs.btr_reader_walk.declared.tree.Form.{Form}
use Rattle.btr_tree_writer.specs.declared.writer.TreeWriter.{TreeWriter}

-- the key of the last item, if there is one
abbrev pub last_key : List Item → Option Key
last_key [] = None
last_key (item ∷ []) = Some item.0
last_key (item ∷ (next ∷ items)) = last_key (next ∷ items)

-- The writer holds these items of a tree with this number and generation, whose nodes go to these slots.
pub record WritesTree (w : TreeWriter) (form : Form) (generation owner : ℕ) (slots : SlotLists) (items : List Item) : Type 0 where
  pub holds : Holds w.builder items
  pub counted : Counted w.counter (lengths_of items)
  pub last_is : w.last ≡ last_key items
  pub form_is : w.builder.made.form ≡ form
  pub sizes : (w.nodesize ≡ form.nodesize) × (w.counter.nodesize ≡ form.nodesize)
  pub owner_is : w.builder.made.owner ≡ owner
  pub generation_is : w.builder.made.generation ≡ generation
  pub slots_are : w.builder.made.slots ≡ slots.addresses
  pub offsets_are : w.builder.made.offsets ≡ slots.offsets
  pub few : length slots.addresses < 2 ^ 43
  pub short : All (λ i. length i.1 + 126 ≤ form.nodesize) items
  pub room : bytes_of (lengths_of items) ≤ capacity form.nodesize * length slots.addresses
  pub unspent : w.builder.spent ≡ false
  pub going : w.builder.done ≡ false

-- it holds some items, of some tree
abbrev pub IsWriterReady : TreeWriter → Type 0
IsWriterReady w = (form : Form) × (generation : ℕ) × (owner : ℕ) × (slots : SlotLists) × (items : List Item) × WritesTree w form generation owner slots items

-- The items are those in the nodes that were written, as a disk has them, and those that the builder holds.
pub record StandsOn (w : TreeWriter) (image : Image) (items : List Item) : Type 0 where
  pub stands : Stands w.builder image
  pub pushed_are : pushed_on w.builder image ≡ items

abbrev pub IsStanding : TreeWriter → Image → Type 0
IsStanding w image = (items : List Item) × StandsOn w image items

-- a key is above the last one, if there is one
abbrev pub IsAbove : Option Key → Key → Type 0
IsAbove None key = Unit {0}
IsAbove (Some last) key = IsBefore last key

-- the counter has counted the items, and so many nodes as the tree has
pub record IsCountedTree (nodesize : ℕ) (slots : List ℕ) (items : List Item) (root : Root) (counter : Tally) : Type 0 where
  pub counted : Counted counter (lengths_of items)
  pub size : counter.nodesize ≡ nodesize
  pub count : root.nodes ≡ tree_nodes nodesize (lengths_of items)
  pub few : root.nodes ≤ length slots
