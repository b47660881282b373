-- What a writer keeps: the buffer is the node's bytes, but for the head and the checksum.
use Rattle.std.specs.Prelude.{◌≡◌, ℕ, ◌+◌, ◌-◌, Bool, List, length, map}
use Rattle.btr_keys.specs.btrfs_format.declared.size.TheConstants.{HEADER_SIZE, ITEM_SIZE, KEY_PTR_SIZE}
use Rattle.btr_node.specs.Draft.{Draft, IsDraft, contents, data_of}
use Rattle.btr_node.specs.Head.{behind_head}
use Rattle.btr_node.specs.Inner.{child_layout}
use Rattle.btr_node.specs.Leaf.{Item, item_layout, item_of}
use Rattle.btr_node.specs.Records.{records_in}
use Rattle.btr_node.specs.declared.child.Child.{Child}
use Rattle.btr_node.specs.declared.expect.Expect.{Expect}

-- the first n items in the bytes of a node
unfoldable pub stored_items : List ℕ → ℕ → List Item
stored_items bytes n = map (item_of (behind_head bytes)) (records_in ITEM_SIZE item_layout n (behind_head bytes))

-- the first n children
unfoldable pub stored_children : List ℕ → ℕ → List Child
stored_children bytes n = records_in KEY_PTR_SIZE child_layout n (behind_head bytes)

-- the node that a writer holds, by its fields
abbrev pub held : List ℕ → Bool → Expect → List ℕ → ℕ → ℕ → Draft
held bytes started want chunk_tree items children =
    record {
      nodesize = length bytes;
      started = started;
      want = want;
      chunk_tree = chunk_tree;
      items = stored_items bytes items;
      children = stored_children bytes children;
    }

-- the buffer holds the draft, and the data of its items begins at `low` behind the head
pub record HoldsDraft (bytes : List ℕ) (low : ℕ) (draft : Draft) : Type 0 where
  pub right : IsDraft draft
  pub filled : behind_head bytes ≡ contents (length bytes - HEADER_SIZE) draft.items draft.children
  pub placed : HEADER_SIZE + low + length (data_of draft.items) ≡ length bytes
