-- The links of an accepted volume: each is an entry of a directory, and its name one that a Btrfs tree may have.
use Rattle.convert_trees_laws.proofs.Imports.{◌≡◌, ℕ, zero, suc, ◌+◌, ◌==◌, ◌&&◌, ◌||◌, nat_eq, nat_lt, not, codes, Bool, true, false, cond, List, [], ◌∷◌, map, filter, length, Contains, Some, if◌then◌else◌, refl, sym, ap, ◌∙◌, ⊎_elim, true≢false, arith, list_any, All-contains, AllPass-from_list_all, take_while-cons, Kind, Directory, File, Symlink, Character, Block, Fifo, Socket, Subvolume, head_or_tail, in_filter, from_map, from_filter, from_flat_map, ItemKind, Stat, Indirect, Direct, ReiserItem, Naming, same_key, object_key_of, items_of, may_have, namings, namings_in, namings_by_kind, is_listed, IsNamed, AreObjects, IsDirectory, same_key-self, is_name as is_tree_name}
use Rattle.convert_steps.specs.reiser_node.declared.head.ItemKind.TheVariants.{Directory as Entries}
use Rattle.convert_steps.specs.reiser_volume_objects.Kinds.{is_directory}
use Rattle.convert_steps.specs.reiser_volume_objects.Names.{naming_by}
use Rattle.std.specs.Cmp.Lexicographic.{pointwise}
use Rattle.convert_steps.specs.reiser_items.Entries.{EntryValue, are_entries, entries, entries_from, entry_at, is_of_name, name_area, until_zero}
use Rattle.convert_steps.specs.reiser_volume_names.Names.{is_name}

-- ---- the directory of an entry

-- a name that ends before the first zero
abbrev pub IsCut : List ℕ → Type 0
IsCut name = (bytes : List ℕ) × (name ≡ until_zero bytes)

-- an entry of an item is that of the object that it belongs to, and its name has no zero
record IsEntryOf (i : ReiserItem) (kind : ItemKind) (n : Naming) : Type 0 where
  entries_there : kind ≡ Entries
  dir_is : n.dir ≡ object_key_of i.head
  cut : IsCut n.name

cut_names : (body : List ℕ) (first count : ℕ) (e : EntryValue) → Contains (entries_from body first count) e → (k : ℕ) × (entry_at body k ≡ e)
cut_names body first zero e h = absurd (omega (arith, h.1))
cut_names body first (suc n) e h =
    ⊎_elim (λ (here : entry_at body first ≡ e). (first, here)) (λ (later : Contains (entries_from body (first + 1) n) e). cut_names body (first + 1) n e later) (head_or_tail (entry_at body first) (entries_from body (first + 1) n) e h)

entry_of : (i : ReiserItem) (kind : ItemKind) (n : Naming) → Contains (namings_by_kind kind i) n → IsEntryOf i kind n
entry_of i Stat n among = absurd (omega (arith, among.1))
entry_of i Indirect n among = absurd (omega (arith, among.1))
entry_of i Direct n among = absurd (omega (arith, among.1))
entry_of i Entries n among = by (are_entries i.head.count i.body) among
  where
    by : (b : Bool) → Contains (if b then map (naming_by i.leaf (object_key_of i.head)) (filter is_listed (entries i.head.count i.body)) else []) n → IsEntryOf i Entries n
    by false among = absurd (omega (arith, among.1))
    by true among =
        let m = from_map (naming_by i.leaf (object_key_of i.head)) (filter is_listed (entries i.head.count i.body)) n among in
        let kept = from_filter is_listed (entries i.head.count i.body) m.0 m.1 in
        let at = cut_names i.body 0 i.head.count m.0 kept.0 in
        record {
          entries_there = refl;
          dir_is = sym (ap (λ (x : Naming). x.dir) m.2);
          cut = (name_area i.body at.0, sym (ap (λ (x : Naming). x.name) m.2) ∙ sym (ap (λ (x : EntryValue). x.name) at.1));
        }

only_directory : (kind : Kind) → is_directory kind ≡ true → kind ≡ Directory
only_directory Directory is = refl
only_directory File is = absurd (true≢false (sym is))
only_directory Symlink is = absurd (true≢false (sym is))
only_directory Character is = absurd (true≢false (sym is))
only_directory Block is = absurd (true≢false (sym is))
only_directory Fifo is = absurd (true≢false (sym is))
only_directory Socket is = absurd (true≢false (sym is))
only_directory Subvolume is = absurd (true≢false (sym is))

-- an object that has entries is a directory
pub entries_directory : (items : List ReiserItem) (n : Naming) → AreObjects items → Contains (namings items) n → IsNamed items n.dir → IsDirectory items n.dir
entries_directory items n objects among named =
    let at = from_flat_map namings_in items n among in
    let i : ReiserItem = at.0 in
    let e = entry_of i i.head.kind n at.2 in
    let o = objects.each n.dir named in
    let own : Contains (items_of n.dir items) i = in_filter (λ x. same_key (object_key_of x.head) n.dir) items i at.1 (ap (same_key (object_key_of i.head)) e.dir_is ∙ same_key-self (object_key_of i.head)) in
    let fits : may_have o.kind i.head.kind ≡ true = All-contains (λ x. may_have o.kind x.head.kind ≡ true) (items_of n.dir items) i (AllPass-from_list_all (λ x. may_have o.kind x.head.kind) (items_of n.dir items) o.fits) own in
    let kind : o.kind ≡ Directory = only_directory o.kind (sym (ap (may_have o.kind) e.entries_there) ∙ fits) in
    record { stat = o.stat; has_stat = o.has_stat; known = o.known ∙ ap (λ (k : Kind). Some k) kind }

-- ---- names

both_bytes : (name : List ℕ) → list_any (λ b. b == 47) name ≡ false → list_any (λ b. b == 0) name ≡ false → list_any (λ b. (b == 47) || (b == 0)) name ≡ false
both_bytes [] no_slash no_zero = refl
both_bytes (x ∷ xs) no_slash no_zero = by (x == 47) (x == 0) (both_bytes xs) no_slash no_zero
  where
    by : (a b : Bool) → (list_any (λ c. c == 47) xs ≡ false → list_any (λ c. c == 0) xs ≡ false → list_any (λ c. (c == 47) || (c == 0)) xs ≡ false) → (a || list_any (λ c. c == 47) xs) ≡ false
        → (b || list_any (λ c. c == 0) xs) ≡ false → ((a || b) || list_any (λ c. (c == 47) || (c == 0)) xs) ≡ false
    by false false later slash none = later slash none
    by true b later slash none = absurd (true≢false slash)
    by false true later slash none = absurd (true≢false none)

until_none : (bytes : List ℕ) → list_any (λ b. b == 0) (until_zero bytes) ≡ false
until_none [] = refl
until_none (x ∷ xs) = ap (list_any (λ b. b == 0)) (take_while-cons is_of_name x xs) ∙ by (x == 0) refl (until_none xs)
  where
    by : (b : Bool) → (x == 0) ≡ b → list_any (λ c. c == 0) (until_zero xs) ≡ false → list_any (λ c. c == 0) (cond (not b) (x ∷ until_zero xs) []) ≡ false
    by true is later = refl
    by false is later = ap (λ (c : Bool). c || list_any (λ d. d == 0) (until_zero xs)) is ∙ later

-- the name of a link is a name in a tree
pub tree_name : (items : List ReiserItem) (n : Naming) → Contains (namings items) n → is_name n.name ≡ true → is_tree_name n.name ≡ true
tree_name items n among is =
    let at = from_flat_map namings_in items n among in
    let e = entry_of at.0 at.0.head.kind n at.2 in
    by (nat_lt 0 (length n.name)) (list_any (λ b. b == 47) n.name) (list_any (λ b. (b == 47) || (b == 0)) n.name) (pointwise nat_eq n.name (codes ".") || pointwise nat_eq n.name (codes ".."))
    (λ no_slash. both_bytes n.name no_slash (ap (list_any (λ b. b == 0)) e.cut.1 ∙ until_none e.cut.0)) is
  where
    by : (some slash other dots : Bool) → (slash ≡ false → other ≡ false) → (some && (not slash && not dots)) ≡ true → (some && (not other && not dots)) ≡ true
    by true false other dots none is = ap (λ (c : Bool). not c && not dots) (none refl) ∙ is
    by true true other dots none is = absurd (true≢false (sym is))
    by false slash other dots none is = absurd (true≢false (sym is))
