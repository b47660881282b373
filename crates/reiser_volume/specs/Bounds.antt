-- How much an accepted volume can hold: its leaves are blocks of it, each once, and what a leaf holds fits into a block.
use Rattle.std.specs.Prelude.{◌≢◌, ◌≤◌, ◌^◌, ℕ, ◌+◌, List, length, sum_by, AllPairs}
use Rattle.reiser_bitmap.specs.outside.History.{Image}
use Rattle.reiser_volume_objects.specs.reiser_node.declared.head.ItemKind.{ItemKind}
use Rattle.reiser_volume_objects.specs.reiser_node.declared.head.ItemKind.TheVariants.{Stat, Indirect, Direct, Directory}
use Rattle.reiser_volume_objects.specs.reiser_walk.Items.{ReiserItem}
use Rattle.reiser_volume_objects.specs.declared.key.ObjectKey.{ObjectKey}
use Rattle.reiser_volume_objects.specs.declared.naming.Naming.{Naming}
use Rattle.reiser_volume_objects.specs.Keys.{items_of}
use Rattle.reiser_volume_names.specs.Links.{AreLinks, AreNamedKeys}
use Rattle.reiser_volume.specs.Volume.{superblock, volume_items, IsAccepted}

-- the bytes that an item takes of a leaf: its head and its body
abbrev pub item_bytes : ReiserItem → ℕ
item_bytes i = 24 + length i.body

-- the bytes of a file that an item itself holds
abbrev pub direct_length : ItemKind → List ℕ → ℕ
direct_length Stat body = 0
direct_length Indirect body = 0
direct_length Direct body = length body
direct_length Directory body = 0

abbrev pub direct_bytes : ReiserItem → ℕ
direct_bytes i = direct_length i.head.kind i.body

-- Bounds of what a volume has: blocks, bytes of its items, named objects, links with the bytes of their names, and the bytes that
-- the items of different objects hold.
pub record IsSmallVolume (image : Image) : Type 0 where
  pub blocks : (superblock image).blocks ≤ 2 ^ 29
  pub bytes : sum_by item_bytes (volume_items image) ≤ 2 ^ 41
  pub objects : (keys : List ObjectKey) → AreNamedKeys (volume_items image) keys → length keys ≤ 2 ^ 37
  pub links : (visible links : List Naming) → AreLinks (volume_items image) visible links → length links ≤ 2 ^ 37
  pub names : (visible links : List Naming) → AreLinks (volume_items image) visible links → sum_by (λ n. length n.name) links ≤ 2 ^ 45
  pub direct : (keys : List ObjectKey) → AllPairs (λ a b. a ≢ b) keys → sum_by (λ key. sum_by direct_bytes (items_of key (volume_items image))) keys ≤ 2 ^ 41

abbrev pub AcceptedIsSmall : Type 0
AcceptedIsSmall = (image : Image) → IsAccepted image → IsSmallVolume image
