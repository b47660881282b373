-- The used blocks of an accepted volume decide the bytes of its files, and so its rows.
use Rattle.reiser_volume.proofs.Imports.{◌≡◌, ◌≢◌, ◌-◌, ℕ, Bool, true, false, not, ◌&&◌, List, [], length, filter, Contains, if◌then◌else◌, sym, ◌∙◌, ap, subst, true≢false, list_any, false_from_ne_true, ne_eqb, All-contains, Image, WholeRow, has, ItemKind, Indirect, pointers, is_save_link, BlockPointer, ReiserTree, ReiserItem, is_indirect, is_no_hole, blocks_named, tree_damages, tree_events, reached_in, items_of_tree, Each, each_from_all, all_from_each, sound_exactly, named_block, file_bytes, named_decide, items_name, ObjectKey, Naming, object_key_of, same_key, items_of, has_bytes, SameUsed, IsRow, AreReiserRows}
use Rattle.std.proofs.lemmas.List.Folds.{list_any-from_Any}
use Rattle.reiser_bitmap.proofs.Ranges.{contains_filter, filter_contains}
use Rattle.reiser_volume_contents.proofs.Inside.{Names, named_inside}

pub none_saves : (items : List ReiserItem) (i : ReiserItem) → list_any (λ x. is_save_link x.head) items ≡ false → Contains items i → is_save_link i.head ≡ false
none_saves items i none among =
    false_from_ne_true (is_save_link i.head) (λ is. true≢false (sym (list_any-from_Any (λ x. is_save_link x.head) items (among.0, i, among.1, among.2, is)) ∙ none))

-- a pointer of an indirect item that is no save link, and no hole, is a block that the item names
pub is_named : (i : ReiserItem) (b : ℕ) → i.head.kind ≡ Indirect → is_save_link i.head ≡ false → Contains (pointers i.body) b → b ≢ 0 → Contains (blocks_named i.head i.body) b
is_named i b kind own among some =
    let no_hole : is_no_hole b ≡ true = ap not (ne_eqb b 0 some) in
    subst (λ (k : ItemKind). Contains (if is_indirect k && not (is_save_link i.head) then filter is_no_hole (pointers i.body) else []) b) (sym kind)
    (subst (λ (t : Bool). Contains (if not t then filter is_no_hole (pointers i.body) else []) b) (sym own) (contains_filter is_no_hole (pointers i.body) b no_hole among))

-- the files of a tree with which nothing is wrong, and that has no save link
module _ (tree : ReiserTree) (image other : Image) (used : List Bool) (sound : tree_damages tree image used ≡ []) (same : SameUsed used image other)
    (none : list_any (λ i. is_save_link i.head) (items_of_tree tree image (length used)) ≡ false) where
  abbrev items : List ReiserItem
  items = items_of_tree tree image (length used)

  abbrev Used : ℕ → Type 0
  Used b = has used b ≡ true

  names_used : Each (Names Used) items
  names_used =
      named_inside Used image (length used) (tree.height - 1) 16 tree.root
      (each_from_all (λ (p : BlockPointer). has used p.block ≡ true) (reached_in (tree_events tree image (length used))) ((sound_exactly tree image used).0 sound).all_used)

  block_used : (i : ReiserItem) (b : ℕ) → Contains items i → Contains (blocks_named i.head i.body) b → Used b
  block_used i b among named =
      All-contains Used (blocks_named i.head i.body) b (all_from_each Used (blocks_named i.head i.body) (All-contains (Names Used) items i (all_from_each (Names Used) items names_used) among)) named

  pub bytes_same : (key : ObjectKey) (size : ℕ) → file_bytes other (items_of key items) size ≡ file_bytes image (items_of key items) size
  bytes_same key size =
      named_decide image other (items_of key items) size (λ k low some.
      let n = items_name (items_of key items) k some in
      let among : Contains items n.item = (filter_contains (λ i. same_key (object_key_of i.head) key) items n.item n.among).0 in
      same (named_block (items_of key items) k)
      (block_used n.item (named_block (items_of key items) k) among (is_named n.item (named_block (items_of key items) k) n.indirect (none_saves items n.item none among) n.pointer some)))

-- where the files have the same bytes, the rows are the same
module _ (image other : Image) (flags : ℕ) (items : List ReiserItem) (same : (key : ObjectKey) (size : ℕ) → file_bytes other (items_of key items) size ≡ file_bytes image (items_of key items) size) where
  row_same : (links : List Naming) (rows : List WholeRow) (key : ObjectKey) (row : WholeRow) → IsRow image flags items links rows key row → IsRow other flags items links rows key row
  row_same links rows key row r = record {
    leads = r.leads;
    stat = r.stat;
    has_stat = r.has_stat;
    fields = r.fields;
    least = r.least;
    names = r.names;
    bytes = r.bytes ∙ ap (λ (bytes : List ℕ). if has_bytes row.kind then bytes else []) (sym (same key r.stat.fields.size));
  }

  pub rows_same : (rows : List WholeRow) → AreReiserRows image flags items rows → AreReiserRows other flags items rows
  rows_same rows h = record {
    visible = h.visible;
    links = h.links;
    are_links = h.are_links;
    ascends = h.ascends;
    each = λ row among. let at = h.each row among in (at.0, row_same h.links rows at.0 row at.1);
    whole = h.whole;
  }
