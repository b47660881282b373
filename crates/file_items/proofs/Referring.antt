-- The references of an object, made of records.
use Rattle.file_items.proofs.Imports.{◌≡◌, ◌<◌, ℕ, suc, ◌+◌, not, List, [], ◌∷◌, ◌++◌, length, filter, map, take, get_or, Some, refl, sym, ap, ◌∙◌, append_assoc, arith, slice_get, flat_map, map-append, slice_get-get_or, DIR_ITEM, INODE_EXTREF, INODE_REF, dir_entry_bytes, ExtrefValue, extref_bytes, InodeRefValue, inode_ref_bytes, make_key, Item, grouped, ascending, offset_of, joined, joined_item, take_push, grouped_map, ascending_map, flat_of_map, ino_of_key, ObjectKey, Naming, AreExtrefs, IndexedLink, Indexed, names_of, parent_of, inode_ref, extref, inode_refs, extrefs, entry_items, ref_record, far_record, hash_record, index_record}
use Rattle.reiser_volume.specs.castagnoli.Castagnoli.{name_hash, extref_hash}

module _ {A : Type 0} (ino kind : ℕ) (key : A → ℕ) (kind_of : A → ℕ) (number : A → ℕ) (bytes : A → List ℕ) where
  abbrev record_of : A → Item
  record_of x = (make_key (key x) (kind_of x) (number x), bytes x)

  items_of_groups : (groups : List (ℕ × List A)) → map (joined_item ino kind) (map (λ (g : ℕ × List A). (g.0, map record_of g.1)) groups) ≡ map (λ (g : ℕ × List A). (make_key ino kind g.0, flat_map bytes g.1)) groups
  items_of_groups [] = refl
  items_of_groups (g ∷ groups) =
      ap (λ (l : List ℕ). (make_key ino kind g.0, l) ∷ map (joined_item ino kind) (map (λ (h : ℕ × List A). (h.0, map record_of h.1)) groups)) (flat_of_map record_of (λ (i : Item). i.1) g.1)
      ∙ ap (λ (l : List Item). (make_key ino kind g.0, flat_map bytes g.1) ∷ l) (items_of_groups groups)

  -- records of elements under their numbers, joined
  pub joined_of : (xs : List A) → joined ino kind (map record_of xs) ≡ map (λ (g : ℕ × List A). (make_key ino kind g.0, flat_map bytes g.1)) (grouped number xs)
  joined_of xs = ap (map (joined_item ino kind)) (grouped_map offset_of record_of xs) ∙ items_of_groups (grouped number xs)

map_twice : {A B C : Type 0} (f : B → C) (g : A → B) (xs : List A) → map f (map g xs) ≡ map (λ x. f (g x)) xs
map_twice f g [] = refl
map_twice {A} {B} {C} f g (x ∷ xs) = ap (λ (l : List C). f (g x) ∷ l) (map_twice f g xs)

-- the references of an object
pub refs_added : (keys : List ObjectKey) (links : List Naming) (key : ObjectKey) (ino : ℕ) (refs far extra items₀ items₁ items₂ : List Item) → ino ≡ ino_of_key keys key
    → refs ≡ map (ref_record keys ino) (filter (λ e. not e.extended) (names_of links key)) → far ≡ map (far_record keys) (filter (λ e. e.extended) (names_of links key)) → AreExtrefs ino far extra
    → items₁ ≡ items₀ ++ joined ino INODE_REF refs → items₂ ≡ items₁ ++ joined ino INODE_EXTREF extra → items₂ ≡ items₀ ++ (inode_refs keys links key ++ extrefs keys links key)
refs_added keys links key ino refs far extra items₀ items₁ items₂ ino_is refs_are far_is extra_is first second =
    let plain : List IndexedLink = filter (λ e. not e.extended) (names_of links key) in
    let more : List IndexedLink = filter (λ e. e.extended) (names_of links key) in
    let one : joined ino INODE_REF refs ≡ inode_refs keys links key =
    ap (joined ino INODE_REF) refs_are ∙ (joined_of ino INODE_REF (λ (e : IndexedLink). ino) (λ (e : IndexedLink). 12) (parent_of keys) (λ (e : IndexedLink). inode_ref_bytes (inode_ref e)) plain
    ∙ ap (λ (n : ℕ). map (λ (g : ℕ × List IndexedLink). (make_key n INODE_REF g.0, flat_map (λ (e : IndexedLink). inode_ref_bytes (inode_ref e)) g.1)) (grouped (parent_of keys) plain)) ino_is) in
    let other : joined ino INODE_EXTREF extra ≡ extrefs keys links key =
    ap (joined ino INODE_EXTREF) (extra_is ∙ (ap (map (λ (i : Item). (make_key ino INODE_EXTREF i.0.objectid, i.1))) (ap (ascending offset_of) far_is ∙ ascending_map offset_of (far_record keys) more)
    ∙ map_twice (λ (i : Item). (make_key ino INODE_EXTREF i.0.objectid, i.1)) (far_record keys) (ascending (parent_of keys) more)))
    ∙ (joined_of ino INODE_EXTREF (λ (e : IndexedLink). ino) (λ (e : IndexedLink). 13) (λ (e : IndexedLink). extref_hash (parent_of keys e) e.link.name) (λ (e : IndexedLink). extref_bytes (extref keys e)) (ascending (parent_of keys) more)
    ∙ ap (λ (n : ℕ). map (λ (g : ℕ × List IndexedLink). (make_key n INODE_EXTREF g.0, flat_map (λ (e : IndexedLink). extref_bytes (extref keys e)) g.1)) (grouped (λ (e : IndexedLink). extref_hash (parent_of keys e) e.link.name) (ascending (parent_of keys) more))) ino_is) in
    second ∙ (ap (λ (l : List Item). l ++ joined ino INODE_EXTREF extra) first ∙ (append_assoc items₀ (joined ino INODE_REF refs) (joined ino INODE_EXTREF extra)
    ∙ ap (λ (l : List Item). items₀ ++ l) (ap (λ (l : List Item). l ++ joined ino INODE_EXTREF extra) one ∙ ap (λ (l : List Item). inode_refs keys links key ++ l) other)))

-- the record of an extended name, and that of another one
pub far_added : (keys : List ObjectKey) (e : IndexedLink) (old new : List Item) (parent index hash : ℕ) (name body : List ℕ) → parent ≡ parent_of keys e → index ≡ e.index → name ≡ e.link.name
    → body ≡ extref_bytes (record { parent = parent; index = index; name = name }) → hash ≡ extref_hash parent name → new ≡ old ++ (make_key hash INODE_EXTREF parent, body) ∷ [] → new ≡ old ++ far_record keys e ∷ []
far_added keys e old new parent index hash name body parent_is index_is name_is body_is hash_is new_is =
    new_is
    ∙ (ap (λ (h : ℕ). old ++ (make_key h INODE_EXTREF parent, body) ∷ []) hash_is
    ∙ (ap (λ (b : List ℕ). old ++ (make_key (extref_hash parent name) INODE_EXTREF parent, b) ∷ []) body_is
    ∙ (ap (λ (p : ℕ). old ++ (make_key (extref_hash p name) INODE_EXTREF p, extref_bytes (made p index name)) ∷ []) parent_is
    ∙ (ap (λ (i : ℕ). old ++ (make_key (extref_hash (parent_of keys e) name) INODE_EXTREF (parent_of keys e), extref_bytes (made (parent_of keys e) i name)) ∷ []) index_is
    ∙ ap (λ (n : List ℕ). old ++ (make_key (extref_hash (parent_of keys e) n) INODE_EXTREF (parent_of keys e), extref_bytes (made (parent_of keys e) e.index n)) ∷ []) name_is))))
  where
    made : ℕ → ℕ → List ℕ → ExtrefValue
    made p i n = record { parent = p; index = i; name = n }

pub ref_added : (keys : List ObjectKey) (e : IndexedLink) (old new : List Item) (ino parent index : ℕ) (name body : List ℕ) → parent ≡ parent_of keys e → index ≡ e.index → name ≡ e.link.name
    → body ≡ inode_ref_bytes (record { index = index; name = name }) → new ≡ old ++ (make_key ino INODE_REF parent, body) ∷ [] → new ≡ old ++ ref_record keys ino e ∷ []
ref_added keys e old new ino parent index name body parent_is index_is name_is body_is new_is =
    new_is
    ∙ (ap (λ (b : List ℕ). old ++ (make_key ino INODE_REF parent, b) ∷ []) body_is
    ∙ (ap (λ (p : ℕ). old ++ (make_key ino INODE_REF p, inode_ref_bytes (made index name)) ∷ []) parent_is
    ∙ (ap (λ (i : ℕ). old ++ (make_key ino INODE_REF (parent_of keys e), inode_ref_bytes (made i name)) ∷ []) index_is
    ∙ ap (λ (n : List ℕ). old ++ (make_key ino INODE_REF (parent_of keys e), inode_ref_bytes (made e.index n)) ∷ []) name_is)))
  where
    made : ℕ → List ℕ → InodeRefValue
    made i n = record { index = i; name = n }

-- the entries of a directory
pub entries_added : (ino : ℕ) (list : List Indexed) (hashed indexes items₀ items₁ items₂ : List Item) → hashed ≡ map (hash_record ino) list → indexes ≡ map (index_record ino) list
    → items₁ ≡ items₀ ++ joined ino DIR_ITEM hashed → items₂ ≡ items₁ ++ indexes → items₂ ≡ items₀ ++ entry_items ino list
entries_added ino list hashed indexes items₀ items₁ items₂ hashed_is indexes_are first second =
    let one = ap (joined ino DIR_ITEM) hashed_is ∙ joined_of ino DIR_ITEM (λ (e : Indexed). ino) (λ (e : Indexed). 84) (λ (e : Indexed). name_hash e.1.name) (λ (e : Indexed). dir_entry_bytes e.1) list in
    second ∙ (ap (λ (l : List Item). l ++ indexes) first ∙ (append_assoc items₀ (joined ino DIR_ITEM hashed) indexes
    ∙ ap (λ (l : List Item). items₀ ++ l) (ap (λ (l : List Item). l ++ indexes) one ∙ ap (λ (l : List Item). map (λ (g : ℕ × List Indexed). (make_key ino DIR_ITEM g.0, flat_map (λ (e : Indexed). dir_entry_bytes e.1) g.1)) (grouped (λ (e : Indexed). name_hash e.1.name) list) ++ l) indexes_are)))

no_item : Item
no_item = (make_key 0 0 0, [])

-- one more extended name under its hash
pub far_moved : (ino : ℕ) (far sorted old new : List Item) (i hash : ℕ) (body : List ℕ) → far ≡ sorted → i < length far → old ≡ map (λ (j : Item). (make_key ino INODE_EXTREF j.0.objectid, j.1)) (take i sorted)
    → ((item : Item) → slice_get far i ≡ Some item → hash ≡ item.0.objectid) → ((item : Item) → slice_get far i ≡ Some item → body ≡ item.1) → new ≡ old ++ (make_key ino INODE_EXTREF hash, body) ∷ []
    → new ≡ map (λ (j : Item). (make_key ino INODE_EXTREF j.0.objectid, j.1)) (take (i + 1) sorted)
far_moved ino far sorted old new i hash body same within built hash_is body_is new_is =
    let item : Item = get_or far i no_item in
    let there = slice_get-get_or far i no_item within in
    let move : Item → Item = λ (j : Item). (make_key ino INODE_EXTREF j.0.objectid, j.1) in
    new_is ∙ (ap (λ (l : List Item). l ++ (make_key ino INODE_EXTREF hash, body) ∷ []) (built ∙ ap (λ (l : List Item). map move (take i l)) (sym same))
    ∙ (ap (λ (h : ℕ). map move (take i far) ++ (make_key ino INODE_EXTREF h, body) ∷ []) (hash_is item there) ∙ (ap (λ (b : List ℕ). map move (take i far) ++ (make_key ino INODE_EXTREF item.0.objectid, b) ∷ []) (body_is item there)
    ∙ (sym (map-append move (take i far) (item ∷ [])) ∙ ap (map move) (sym (take_push i far no_item within) ∙ (ap (λ (k : ℕ). take k far) one ∙ ap (take (i + 1)) same))))))
  where
    one : suc i ≡ i + 1
    one = omega arith
