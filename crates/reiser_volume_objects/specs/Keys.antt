-- Which object an item of a ReiserFS tree belongs to: the first two numbers of its key.
use Rattle.std.specs.Prelude.{◌==◌, Bool, ◌&&◌, List, filter}
use Rattle.reiser_bitmap.specs.reiserfs_format.declared.key.TheConstants.{ROOT_OBJECTID, ROOT_PARENT_OBJECTID}
use Rattle.reiser_items.specs.reiser_node.declared.head.ItemHead.{ItemHead}
use Rattle.reiser_walk.specs.Items.{ReiserItem}
use Rattle.reiser_volume_objects.specs.declared.key.ObjectKey.{ObjectKey}

abbrev pub same_key : ObjectKey → ObjectKey → Bool
same_key a b = (a.dir == b.dir) && (a.object == b.object)

-- the object that an item belongs to
abbrev pub object_key_of : ItemHead → ObjectKey
object_key_of head = record { dir = head.dir; object = head.object }

-- the root directory
abbrev pub root : ObjectKey
root = record { dir = ROOT_PARENT_OBJECTID; object = ROOT_OBJECTID }

-- the items of an object, in their order
abbrev pub items_of : ObjectKey → List ReiserItem → List ReiserItem
items_of key items = filter (λ i. same_key (object_key_of i.head) key) items
