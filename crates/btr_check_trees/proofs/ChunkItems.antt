-- What the chunk tree tells, with one item more.
use Rattle.btr_check_trees.proofs.Imports.{◌≡◌, ℕ, ◌==◌, Bool, true, false, List, [], ◌∷◌, ◌++◌, map, filter, Option, Some, None, refl, sym, ap, ap₂, subst, ◌∙◌, append_assoc, if◌then◌else◌, inl, inr, flat_map, and_parts, eqb-true, eq-eqb, append-nil, flat_map-append, All-push, All-nil, filter-append, Item, TreeItem, in_leaf, bare_item, CHUNK_ITEM, DEV_ITEM, FIRST_CHUNK_TREE_OBJECTID, Super, ChunkAt, chunk_in, is_chunk_key, new_chunk, placed_chunk, IsChunkTreeItem, added_chunk, chunks_on, of_kind, chunk_by, is_system, system_chunks, FindsDevices, DevicesFound, HoldsChunks, RefusesChunks, TellsChunks, ChunkItems}
use Rattle.std.specs.Option.{option_map}
use Rattle.btr_check_rules.specs.btr_reader.btr_keys.declared.key.Key.{Key}
use Rattle.btr_check_trees.proofs.OneMore.{bare_more, filter_more, flat_more, last_among, more_kind, one_if, same_kind}

-- ---- the chunks with those of one item more

chunks_more : (boot : List ChunkAt) (items : List Item) (i : Item) → chunks_on boot (items ++ i ∷ []) ≡ chunks_on boot items ++ added_chunk (chunk_in boot i.0 i.1)
chunks_more boot items i =
    let f : Item → List ChunkAt = λ j. added_chunk (chunk_in boot j.0 j.1) in
    ap (λ (l : List ChunkAt). boot ++ l) (flat_more f items i) ∙ sym (append_assoc boot (flat_map f items) (f i))

-- the system chunks among some items of chunks
abbrev system_in : List Item → List ChunkAt
system_in items = filter is_system (flat_map (λ i. chunk_by (placed_chunk i.0.offset i.1)) items)

system_more : (items : List Item) (i : Item) → system_chunks (items ++ i ∷ []) ≡ system_chunks items ++ system_in (one_if (is_chunk_key i.0) i)
system_more items i =
    let g : Item → List ChunkAt = λ j. chunk_by (placed_chunk j.0.offset j.1) in
    let p : Item → Bool = λ j. is_chunk_key j.0 in
    ap system_in (filter_more p items i)
    ∙ (ap (filter is_system) (flat_map-append g (filter p items) (one_if (p i) i)) ∙ filter-append is_system (flat_map g (filter p items)) (flat_map g (one_if (p i) i)))

-- what an item that is read so adds
abbrev added_by : List ChunkAt → Bool → Option ChunkAt → List ChunkAt
added_by boot own read = added_chunk (if own then option_map (new_chunk boot) read else Some None)

-- ---- an item of a chunk

no_device : (key : Key) → is_chunk_key key ≡ true → (key.kind == DEV_ITEM) ≡ false
no_device key own =
    let kind : key.kind ≡ CHUNK_ITEM = eqb-true key.kind CHUNK_ITEM (and_parts (key.objectid == FIRST_CHUNK_TREE_OBJECTID) (key.kind == CHUNK_ITEM) own).1 in
    ap (λ (k : ℕ). k == DEV_ITEM) kind

chunk_told : (v w : ChunkItems) (items : List Item) (i : Item) (read : Option ChunkAt) → is_chunk_key i.0 ≡ true → read ≡ placed_chunk i.0.offset i.1
    → w.sup.now ≡ v.sup.now → w.boot.now ≡ v.boot.now → w.devices ≡ v.devices → w.chunks.items ≡ v.chunks.items ++ added_chunk (option_map (new_chunk v.boot.now) read)
    → w.system.items ≡ v.system.items ++ filter is_system (chunk_by read) → TellsChunks v items → TellsChunks w (items ++ i ∷ [])
chunk_told v w items i read own is sup boot devices chunks system tells = record {
  chunks_are =
      chunks
      ∙ (ap₂ (λ (a b : List ChunkAt). a ++ b) (tells.chunks_are ∙ ap (λ (b : List ChunkAt). chunks_on b items) (sym boot))
      (ap₂ (λ (b : List ChunkAt) (r : Option ChunkAt). added_by b true r) (sym boot) is ∙ ap (λ (b : Bool). added_by w.boot.now b (placed_chunk i.0.offset i.1)) (sym own))
      ∙ sym (chunks_more w.boot.now items i));
  system_are =
      system
      ∙ (ap₂ (λ (a b : List ChunkAt). a ++ b) tells.system_are
      (ap (λ (r : Option ChunkAt). filter is_system (chunk_by r)) is
      ∙ (ap (filter is_system) (sym (append-nil (chunk_by (placed_chunk i.0.offset i.1)))) ∙ ap (λ (b : Bool). system_in (one_if b i)) (sym own)))
      ∙ sym (system_more items i));
  devices_are =
      subst (λ (d : DevicesFound). FindsDevices w.sup.now (of_kind DEV_ITEM (items ++ i ∷ [])) d) (sym devices)
      (subst (λ (s : Super). FindsDevices s (of_kind DEV_ITEM (items ++ i ∷ [])) v.devices) (sym sup)
      (subst (λ (l : List Item). FindsDevices v.sup.now l v.devices) (sym (same_kind DEV_ITEM items i (no_device i.0 own))) tells.devices_are));
  keys = All-push IsChunkTreeItem items i tells.keys (inr own);
}

-- ---- an item of the device

none_added : (boot : List ChunkAt) (own : Bool) (read : Option ChunkAt) → own ≡ false → added_by boot own read ≡ []
none_added boot own read other = ap (λ (b : Bool). added_by boot b read) other

device_told : (v w : ChunkItems) (items : List Item) (i : Item) → is_chunk_key i.0 ≡ false → i.0.kind ≡ DEV_ITEM → w.sup.now ≡ v.sup.now → w.boot.now ≡ v.boot.now → w.chunks.items ≡ v.chunks.items
    → w.system.items ≡ v.system.items → ((found : List Item) → FindsDevices v.sup.now found v.devices → FindsDevices v.sup.now (found ++ i ∷ []) w.devices) → TellsChunks v items → TellsChunks w (items ++ i ∷ [])
device_told v w items i other kind sup boot chunks system devices tells = record {
  chunks_are =
      chunks
      ∙ (tells.chunks_are
      ∙ (ap (λ (b : List ChunkAt). chunks_on b items) (sym boot)
      ∙ (sym (append-nil (chunks_on w.boot.now items))
      ∙ (ap (λ (l : List ChunkAt). chunks_on w.boot.now items ++ l) (sym (none_added w.boot.now (is_chunk_key i.0) (placed_chunk i.0.offset i.1) other)) ∙ sym (chunks_more w.boot.now items i)))));
  system_are =
      system
      ∙ (tells.system_are
      ∙ (sym (append-nil (system_chunks items)) ∙ (ap (λ (b : Bool). system_chunks items ++ system_in (one_if b i)) (sym other) ∙ sym (system_more items i))));
  devices_are =
      subst (λ (s : Super). FindsDevices s (of_kind DEV_ITEM (items ++ i ∷ [])) w.devices) (sym sup)
      (subst (λ (l : List Item). FindsDevices v.sup.now l w.devices) (sym (more_kind DEV_ITEM items i (eq-eqb i.0.kind DEV_ITEM kind))) (devices (of_kind DEV_ITEM items) tells.devices_are));
  keys = All-push IsChunkTreeItem items i tells.keys (inl kind);
}

-- ---- what a visitor holds and refuses

pub chunk_held : (begun v w : ChunkItems) (items : List TreeItem) (leaf : ℕ) (i : Item) (read : Option ChunkAt) → is_chunk_key i.0 ≡ true → read ≡ placed_chunk i.0.offset i.1
    → w.sup.now ≡ v.sup.now → w.boot.now ≡ v.boot.now → w.devices ≡ v.devices → w.chunks.items ≡ v.chunks.items ++ added_chunk (option_map (new_chunk v.boot.now) read)
    → w.system.items ≡ v.system.items ++ filter is_system (chunk_by read) → HoldsChunks begun v items → HoldsChunks begun w (items ++ in_leaf leaf i ∷ [])
chunk_held begun v w items leaf i read own is sup boot devices chunks system holds = record {
  sup = sup ∙ holds.sup;
  boot = boot ∙ holds.boot;
  tells = subst (TellsChunks w) (sym (bare_more items (in_leaf leaf i))) (chunk_told v w (map bare_item items) i read own is sup boot devices chunks system holds.tells);
}

pub device_held : (begun v w : ChunkItems) (items : List TreeItem) (leaf : ℕ) (i : Item) → is_chunk_key i.0 ≡ false → i.0.kind ≡ DEV_ITEM → w.sup.now ≡ v.sup.now → w.boot.now ≡ v.boot.now
    → w.chunks.items ≡ v.chunks.items → w.system.items ≡ v.system.items
    → ((found : List Item) → FindsDevices v.sup.now found v.devices → FindsDevices v.sup.now (found ++ i ∷ []) w.devices) → HoldsChunks begun v items → HoldsChunks begun w (items ++ in_leaf leaf i ∷ [])
device_held begun v w items leaf i other kind sup boot chunks system devices holds = record {
  sup = sup ∙ holds.sup;
  boot = boot ∙ holds.boot;
  tells = subst (TellsChunks w) (sym (bare_more items (in_leaf leaf i))) (device_told v w (map bare_item items) i other kind sup boot chunks system devices holds.tells);
}

no_item : (i : Item) → is_chunk_key i.0 ≡ false → ¬ (i.0.kind ≡ DEV_ITEM) → ¬ IsChunkTreeItem i
no_item i other kind (inl is) = kind is
no_item i other kind (inr is) = let both : true ≡ false = sym is ∙ other in cc

pub item_refused : (items : List TreeItem) (leaf : ℕ) (i : Item) → is_chunk_key i.0 ≡ false → ¬ (i.0.kind ≡ DEV_ITEM) → RefusesChunks (items ++ in_leaf leaf i ∷ []) 7 i.0.offset
item_refused items leaf i other kind = (refl, (i, last_among items (in_leaf leaf i), refl, no_item i other kind))

-- no items so far
pub none_held : (v : ChunkItems) → v.chunks.items ≡ v.boot.now → v.system.items ≡ [] → FindsDevices v.sup.now [] v.devices → HoldsChunks v v []
none_held v chunks system devices = record {
  sup = refl;
  boot = refl;
  tells = record { chunks_are = chunks ∙ sym (append-nil v.boot.now); system_are = system; devices_are = devices; keys = All-nil IsChunkTreeItem };
}
