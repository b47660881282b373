-- That an object is in order, or which rule it breaks.
use Rattle.reiser_volume_objects.proofs.Imports.{◌≡◌, ℕ, ◌/◌, ◌==◌, ◌<◌, ◌≤◌, Bool, true, false, not, ◌&&◌, ◌||◌, List, [], ◌∷◌, length, get_or, Option, Some, None, Contains, find, refl, sym, ap, subst, ◌∙◌, true≢false, if◌then◌else◌, arith, option_map, option_map_or, list_any, list_all, VolumeRefusal, Damaged, PendingLinks, ObjectForm, Overlap, SizeRange, Kind, Directory, File, Symlink, Character, Block, Fifo, Socket, ReiserItem, ObjectKey, Object, ObjectStat, is_save_link, Keys, IsReach, first_save_link, items_of, same_key, Contains-append_right, Any-from_list_any, is_directory_mode, kind_of_mode, may_have, is_file, is_symlink, is_directory, fits_size, stat_of_object, is_directory_at, fits_kind, IsNamed, AreObjects, IsDirectory, IsObject, IsKnownObject, save_link, IsObjectsRefusal, unknown_kind, other_items, overlap, size_range, Summarises, has_pointers, has_bytes, has_entries, fits_summary}
use Rattle.reiser_items.specs.reiser_node.declared.head.ItemKind.{ItemKind}
use Rattle.reiser_items.specs.reiser_node.declared.head.ItemKind.TheVariants.{Stat, Indirect, Direct, Directory as Entries}
use Rattle.reiser_volume_objects.proofs.Reaching.{head_is, code_of_directory}
use Rattle.reiser_volume_objects.proofs.Tables.{same_key-true}

-- what a kind with these answers may have, where pointers, bytes and entries are among the items or not
abbrev tests : Bool → Bool → Bool → Bool → Bool → Bool → Bool
tests f g d p b e = (not p || f) && ((not b || g) && (not e || d))

with_pointers : (f g d p b e : Bool) → f && tests f g d p b e ≡ tests f g d true b e
with_pointers false g d p b e = refl
with_pointers true g d true b e = refl
with_pointers true g d false b e = refl

with_bytes : (f g d p b e : Bool) → g && tests f g d p b e ≡ tests f g d p true e
with_bytes f false d true b e = by f
  where
    by : (f : Bool) → false ≡ f && false
    by true = refl
    by false = refl
with_bytes f false d false b e = refl
with_bytes f true d p true e = refl
with_bytes f true d p false e = refl

with_entries : (f g d p b e : Bool) → d && tests f g d p b e ≡ tests f g d p b true
with_entries f g true p b true = refl
with_entries f g true p b false = refl
with_entries f g false p b e = by (not p || f) (not b || g)
  where
    by : (x y : Bool) → false ≡ x && (y && false)
    by true true = refl
    by true false = refl
    by false y = refl

-- the items fit the kind exactly where what is among them does
fits_by_tests : (kind : Kind) (xs : List ReiserItem)
    → list_all (λ i. may_have kind i.head.kind) xs
    ≡ tests (is_file kind) (is_file kind || is_symlink kind) (is_directory kind) (list_any (λ i. has_pointers i.head.kind) xs) (list_any (λ i. has_bytes i.head.kind) xs) (list_any (λ i. has_entries i.head.kind) xs)
fits_by_tests kind [] = refl
fits_by_tests kind (x ∷ xs) = by x.head.kind (fits_by_tests kind xs)
  where
    by : (k : ItemKind)
        → list_all (λ i. may_have kind i.head.kind) xs ≡ tests (is_file kind) (is_file kind || is_symlink kind) (is_directory kind) (list_any (λ i. has_pointers i.head.kind) xs) (list_any (λ i. has_bytes i.head.kind) xs) (list_any (λ i. has_entries i.head.kind) xs)
        → may_have kind k && list_all (λ i. may_have kind i.head.kind) xs
        ≡ tests (is_file kind) (is_file kind || is_symlink kind) (is_directory kind) (has_pointers k || list_any (λ i. has_pointers i.head.kind) xs) (has_bytes k || list_any (λ i. has_bytes i.head.kind) xs) (has_entries k || list_any (λ i. has_entries i.head.kind) xs)
    by Stat h = h
    by Indirect h = ap (λ (b : Bool). is_file kind && b) h ∙ with_pointers (is_file kind) (is_file kind || is_symlink kind) (is_directory kind) (list_any (λ i. has_pointers i.head.kind) xs) (list_any (λ i. has_bytes i.head.kind) xs) (list_any (λ i. has_entries i.head.kind) xs)
    by Direct h = ap (λ (b : Bool). (is_file kind || is_symlink kind) && b) h ∙ with_bytes (is_file kind) (is_file kind || is_symlink kind) (is_directory kind) (list_any (λ i. has_pointers i.head.kind) xs) (list_any (λ i. has_bytes i.head.kind) xs) (list_any (λ i. has_entries i.head.kind) xs)
    by Entries h = ap (λ (b : Bool). is_directory kind && b) h ∙ with_entries (is_file kind) (is_file kind || is_symlink kind) (is_directory kind) (list_any (λ i. has_pointers i.head.kind) xs) (list_any (λ i. has_bytes i.head.kind) xs) (list_any (λ i. has_entries i.head.kind) xs)

summary_fits : (kind : Kind) (o : Object) (xs : List ReiserItem) → Summarises o xs → fits_summary kind o ≡ fits_kind kind xs
summary_fits kind o xs s =
    ap (λ (p : Bool). tests (is_file kind) (is_file kind || is_symlink kind) (is_directory kind) p o.bytes o.entries) s.pointers
    ∙ (ap (λ (b : Bool). tests (is_file kind) (is_file kind || is_symlink kind) (is_directory kind) (list_any (λ i. has_pointers i.head.kind) xs) b o.entries) s.bytes
    ∙ (ap (λ (e : Bool). tests (is_file kind) (is_file kind || is_symlink kind) (is_directory kind) (list_any (λ i. has_pointers i.head.kind) xs) (list_any (λ i. has_bytes i.head.kind) xs) e) s.entries
    ∙ sym (fits_by_tests kind xs)))

pub refused_kind : (items : List ReiserItem) (key : ObjectKey) (stat : ObjectStat) (r : VolumeRefusal) (root_block : ℕ) → IsNamed items key → stat_of_object items key ≡ Some stat → kind_of_mode stat.fields.mode ≡ None → r ≡ Damaged stat.leaf ObjectForm → IsObjectsRefusal root_block items r
refused_kind items key stat r root_block named has none is = unknown_kind key stat named has none is

pub refused_items : (items : List ReiserItem) (key : ObjectKey) (stat : ObjectStat) (kind : Kind) (o : Object) (r : VolumeRefusal) (root_block : ℕ) → IsKnownObject items key stat kind → Summarises o (items_of key items) → fits_summary kind o ≡ false → r ≡ Damaged stat.leaf ObjectForm → IsObjectsRefusal root_block items r
refused_items items key stat kind o r root_block known s no_fit is = other_items key stat kind known (sym (summary_fits kind o (items_of key items) s) ∙ no_fit) is

pub refused_size : (items : List ReiserItem) (key : ObjectKey) (stat : ObjectStat) (kind : Kind) (r : VolumeRefusal) (root_block : ℕ) → IsKnownObject items key stat kind → fits_size kind stat.fields.size ≡ false → r ≡ Damaged stat.leaf SizeRange → IsObjectsRefusal root_block items r
refused_size items key stat kind r root_block known no_fit is = size_range key stat kind known no_fit is

pub refused_overlap : (items : List ReiserItem) (key : ObjectKey) (stat : ObjectStat) (kind : Kind) (o : Object) (leaf : ℕ) (r : VolumeRefusal) (root_block : ℕ) → IsKnownObject items key stat kind → Summarises o (items_of key items) → o.overlap ≡ Some leaf → r ≡ Damaged leaf Overlap → IsObjectsRefusal root_block items r
refused_overlap items key stat kind o leaf r root_block known s found is = overlap key leaf known.named (s.overlap leaf found) is

pub in_order : (items : List ReiserItem) (key : ObjectKey) (stat : ObjectStat) (kind : Kind) (o : Object) → IsKnownObject items key stat kind → Summarises o (items_of key items) → fits_summary kind o ≡ true → fits_size kind stat.fields.size ≡ true → o.overlap ≡ None → IsObject items key
in_order items key stat kind o known s fit size none = record {
  stat = stat;
  has_stat = known.has_stat;
  kind = kind;
  known = known.known;
  fits = sym (summary_fits kind o (items_of key items) s) ∙ fit;
  apart = s.apart none;
  size = size;
}

-- what holds of each key of a list holds of a key that is found in it
pub each_found : (P : ObjectKey → Type 0) (keys : List ObjectKey) (n : ℕ) → length keys ≤ n → ((k : ℕ) (d : ObjectKey) → k < n → P (get_or keys k d)) → (key : ObjectKey) → list_any (same_key key) keys ≡ true → P key
each_found P keys n all each key found =
    let a = Any-from_list_any (same_key key) keys found in
    subst P (sym (same_key-true key a.1 a.4)) (subst P a.3 (each a.0 a.1 (omega (arith, a.2))))

module _ (p : ReiserItem → Bool) where
  -- an item that is found is among the items, and passes
  found_among : (items : List ReiserItem) (i : ReiserItem) → find p items ≡ Some i → Contains items i × (p i ≡ true)
  found_among [] i h = cc
  found_among (x ∷ xs) i h = by (p x) refl h (λ rest. found_among xs i rest)
    where
      by : (b : Bool) → p x ≡ b → (if b then Some x else find p xs) ≡ Some i → (find p xs ≡ Some i → Contains xs i × (p i ≡ true)) → Contains (x ∷ xs) i × (p i ≡ true)
      by true e h more = let same : x ≡ i = cc in (head_is x xs i same, sym (ap p same) ∙ e)
      by false e h more = let r = more h in (Contains-append_right (x ∷ []) xs i r.0, r.1)

  none_passes : (items : List ReiserItem) → find p items ≡ None → list_any p items ≡ false
  none_passes [] h = refl
  none_passes (x ∷ xs) h = by (p x) h (λ rest. none_passes xs rest)
    where
      by : (b : Bool) → (if b then Some x else find p xs) ≡ None → (find p xs ≡ None → list_any p xs ≡ false) → (b || list_any p xs) ≡ false
      by true h more = cc
      by false h more = more h

mapped_some : (o : Option ReiserItem) (n : ℕ) → option_map (λ i. i.head.object) o ≡ Some n → (i : ReiserItem) × (o ≡ Some i) × (n ≡ i.head.object)
mapped_some None n h = cc
mapped_some (Some i) n h = (i, refl, cc)

mapped_none : (o : Option ReiserItem) → option_map (λ i. i.head.object) o ≡ None → o ≡ None
mapped_none None h = refl
mapped_none (Some i) h = cc

-- a save link is refused
pub refused_link : (items : List ReiserItem) (object : ℕ) (root_block : ℕ) → first_save_link items ≡ Some object → IsObjectsRefusal root_block items (PendingLinks object)
refused_link items object root_block found =
    let m = mapped_some (find (λ i. is_save_link i.head) items) object found in
    let f = found_among (λ i. is_save_link i.head) items m.0 m.1 in
    save_link m.0 f.0 f.1 (ap PendingLinks m.2)

-- and where there is none, named objects that are in order are all
pub all_in_order : (items : List ReiserItem) (has : Keys) → first_save_link items ≡ None → IsReach items has → ((key : ObjectKey) → has key ≡ true → IsObject items key) → AreObjects items
all_in_order items has none reach each = record {
  no_save_link = none_passes (λ i. is_save_link i.head) items (mapped_none (find (λ i. is_save_link i.head) items) none);
  root_directory = reach.root_directory;
  each = λ key named. each key (reach.whole key named);
}

-- the test of directories tells the fact
pub directory_tested : (items : List ReiserItem) (key : ObjectKey) → is_directory_at items key ≡ true → IsDirectory items key
directory_tested items key h = by (stat_of_object items key) refl h
  where
    by : (o : Option ObjectStat) → stat_of_object items key ≡ o → option_map_or (λ stat. is_directory_mode stat.fields.mode) o false ≡ true → IsDirectory items key
    by None is h = absurd (true≢false (sym h))
    by (Some stat) is h = record { stat = stat; has_stat = is; known = ap (λ (b : Bool). if b then Some Directory else (if stat.fields.mode / 4096 == 8 then Some File else (if stat.fields.mode / 4096 == 10 then Some Symlink else (if stat.fields.mode / 4096 == 2 then Some Character else (if stat.fields.mode / 4096 == 6 then Some Block else (if stat.fields.mode / 4096 == 1 then Some Fifo else (if stat.fields.mode / 4096 == 12 then Some Socket else None))))))) h }

pub directory_passes : (items : List ReiserItem) (key : ObjectKey) → IsDirectory items key → is_directory_at items key ≡ true
directory_passes items key d =
    ap (λ (o : Option ObjectStat). option_map_or (λ stat. is_directory_mode stat.fields.mode) o false) d.has_stat ∙ code_of_directory (d.stat.fields.mode / 4096) (d.stat.fields.mode / 4096 == 4) refl d.known
