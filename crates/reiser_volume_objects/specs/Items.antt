-- What the items of one object say of it.
use Rattle.std.specs.Prelude.{◌≡◌, ℕ, Bool, false, List, [], ◌∷◌, ◌++◌, Option, None, Contains}
use Rattle.std.specs.Option.{option_map, option_map_or, option_or}
use Rattle.std.specs.List.{list_all}
use Rattle.reiser_items.specs.reiser_node.declared.head.ItemKind.{ItemKind}
use Rattle.reiser_items.specs.reiser_node.declared.head.ItemKind.TheVariants.{Stat, Indirect, Direct, Directory}
use Rattle.reiser_items.specs.Stat.{stat_of}
use Rattle.reiser_walk.specs.Items.{ReiserItem}
pub use Rattle.reiser_volume_files.specs.Laws.{SharesByte, AreItemsApart}
use Rattle.fs_paths.specs.fs_rows.declared.row.Kind.{Kind}
use Rattle.reiser_volume_objects.specs.declared.stat.ObjectStat.{ObjectStat}
use Rattle.reiser_volume_objects.specs.declared.key.ObjectKey.{ObjectKey}
use Rattle.reiser_volume_objects.specs.Keys.{items_of}
use Rattle.reiser_volume_objects.specs.Kinds.{may_have, is_directory_mode}

-- the stat data in an item, if it is a stat item
abbrev pub stat_by_kind : ItemKind → ReiserItem → Option ObjectStat
stat_by_kind Stat i = option_map (λ fields. record { leaf = i.leaf; old_form = i.head.old; fields = fields }) (stat_of i.head.old i.body)
stat_by_kind Indirect i = None
stat_by_kind Direct i = None
stat_by_kind Directory i = None

-- the first stat data in a list of items
abbrev pub first_stat : List ReiserItem → Option ObjectStat
first_stat [] = None
first_stat (i ∷ items) = option_or (stat_by_kind i.head.kind i) (first_stat items)

abbrev pub stat_of_object : List ReiserItem → ObjectKey → Option ObjectStat
stat_of_object items key = first_stat (items_of key items)

-- Whether an object is a directory, as a test.
abbrev pub is_directory_at : List ReiserItem → ObjectKey → Bool
is_directory_at items key = option_map_or (λ stat. is_directory_mode stat.fields.mode) (stat_of_object items key) false

-- Each item is one that an object of the kind may have.
abbrev pub fits_kind : Kind → List ReiserItem → Bool
fits_kind kind items = list_all (λ i. may_have kind i.head.kind) items

-- an item in this leaf holds a byte that an item before it holds
pub record IsOverlap (items : List ReiserItem) (leaf : ℕ) : Type 0 where
  pub before : List ReiserItem
  pub later : ReiserItem
  pub after : List ReiserItem
  pub split : items ≡ before ++ (later ∷ after)
  pub earlier : ReiserItem
  pub among : Contains before earlier
  pub shares : SharesByte earlier later
  pub where_ : leaf ≡ later.leaf
