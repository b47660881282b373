-- The names that directories of the file tree tell are those that inodes tell.
use Rattle.convert_core_laws.proofs.Imports.{◌≡◌, ◌<◌, ℕ, Bool, true, false, not, List, [], ◌∷◌, ◌++◌, map, filter, refl, sym, ap, subst, ◌∙◌, ⊎_elim, arith, IsPermutation, cases_Bool, not_from_false, append-nil, filter-append, IsPermutation-cons, IsPermutation-map, IsPermutation-sym, IsPermutation-trans, keys, Image, BackName, back_name, names_inode_item, own_name, IsMaking, Making, HasPieces, AreSortedKeys, numbered, IndexedLink as Link, Indexed, indexed_links, indexed, indexed_in, names_in, names_of, next_index, parent_of, saved_entry, Source, kind_in, ino_of, object_items, fs_tree_items, inodes_climb, Climb, Kind, Directory, File, Symlink, Character, Block, Fifo, Socket, Subvolume, at_head, from_filter, from_map, head_or_tail, in_filter, in_tail, root, same_key, ObjectKey, same_key-self, same_key-true, by_inode, root_known, is_link, all_from, all_in, kept_map, good_link, link_directory}
use Rattle.std.proofs.Common.{flat_map, Contains, if◌then◌else◌}
use Rattle.convert_core_laws.proofs.soundness.Assembling.{Tells, tells_flat}
use Rattle.convert_core_laws.proofs.soundness.NameLists.{AreApart, flat_same, kept_all, kept_flat, mapped_flat, parts_all}
use Rattle.convert_core_laws.proofs.soundness.Objects.{back, indexes, link_among, listed, names, s, tells_object}
use Rattle.convert_core_laws.proofs.soundness.Telling.{index_by, mapped_same, mapped_twice}

no_elements : {X : Type 0} (xs : List X) → ((x : X) → Contains xs x → ⊥) → xs ≡ []
no_elements [] none = refl
no_elements (x ∷ xs) none = absurd (none x (at_head x xs))

-- of objects with numbers that rise each link's is one alone
apart_keys : (number : ObjectKey → ℕ) (f : Link → ObjectKey) (ks : List ObjectKey) → Climb number ks → AreApart (λ (k : ObjectKey) (e : Link). same_key (f e) k) ks
apart_keys number f [] up = tt
apart_keys number f (k ∷ ks) up = (
  λ e l h t.
      ⊎_elim
      (λ (u : same_key (f e) l ≡ true).
      let less = all_in (λ (x : ObjectKey). number k < number x) ks l up.0 h in
      let same = ap number (sym (same_key-true (f e) k t) ∙ same_key-true (f e) l u) in
      absurd (omega (arith, less, same)))
      (λ (u : same_key (f e) l ≡ false). u) (cases_Bool (same_key (f e) l)),
  apart_keys number f ks up.1,
)

module _ (image : Image) (m : Making) (made : IsMaking image m) where
  abbrev of : HasPieces m.volume image m.options m.plan m.pieces
  of = made.has_pieces

  abbrev src : Source
  src = s image m made

  abbrev all : List ObjectKey
  all = keys m.volume.named

  abbrev pub objects : List ObjectKey
  objects = by_inode all

  pub climbs : Climb (ino_of src) objects
  climbs =
      let sorted : AreSortedKeys image all = record { accepted = of.accepted; are_keys = of.opened.are_keys; ascend = of.opened.ascends } in
      let at = numbered image all sorted in
      inodes_climb all at.0 at.1

  pub in_order : (key : ObjectKey) → Contains all key → Contains objects key
  in_order key h =
      ⊎_elim
      (λ (t : same_key key root ≡ true). subst (Contains objects) (sym (same_key-true key root t)) (at_head root (filter (λ x. not (same_key x root)) all)))
      (λ (f : same_key key root ≡ false). in_tail root (filter (λ x. not (same_key x root)) all) key (in_filter (λ x. not (same_key x root)) all key h (not_from_false (same_key key root) f)))
      (cases_Bool (same_key key root))

  pub from_order : (key : ObjectKey) → Contains objects key → Contains all key
  from_order key h =
      ⊎_elim (λ (same : root ≡ key). subst (Contains all) same (root_known m.volume image of.accepted of.opened))
      (λ (later : Contains (filter (λ x. not (same_key x root)) all) key). (from_filter (λ x. not (same_key x root)) all key later).0) (head_or_tail root (filter (λ x. not (same_key x root)) all) key h)

  pub tells_tree : Tells (fs_tree_items src) (flat_map (indexes image m made) objects) (flat_map (names image m made) objects)
  unfolding fs_tree_items
  tells_tree = tells_flat (object_items src) (indexes image m made) (names image m made) objects (λ key h. tells_object image m made key (from_order key h))

  -- ---- links

  -- a name by its link
  abbrev pub to_back : Link → BackName
  to_back e = record { inode = ino_of src e.link.target; dir = parent_of src.keys e; index = e.index; name = e.link.name }

  pub record IsIn (key : ObjectKey) (e : Link) : Type 0 where
    pub entry : Contains (indexed_links src.links) e
    pub dir_is : e.link.dir ≡ key
    pub directory : kind_in src key ≡ Directory

  pub is_in : (key : ObjectKey) (e : Link) → Contains (names_in src.links key) e → IsIn key e
  is_in key e h =
      let l = is_link src.links key e h in
      record {
        entry = (from_filter (λ (f : Link). same_key f.link.dir key) (indexed_links src.links) e h).0;
        dir_is = l.dir_is;
        directory = subst (λ (k : ObjectKey). kind_in src k ≡ Directory) l.dir_is (link_directory m.volume image m.options m.plan m.pieces of e.link l.among);
      }

  -- what is no directory has no entries
  none_in : (key : ObjectKey) (kind : Kind) → kind_in src key ≡ kind → (kind ≡ Directory → ⊥) → [] ≡ map to_back (names_in src.links key)
  none_in key kind is no_directory = sym (ap (map to_back) (no_elements (names_in src.links key) (λ e h. no_directory (sym is ∙ (is_in key e h).directory))))

  -- the saved image's entry is that of a tree
  last_of : (key : ObjectKey) (b : Bool) → filter (λ (e : Indexed). names_inode_item (index_by (ino_of src key) e)) (if b then (next_index src.links key, saved_entry) ∷ [] else []) ≡ []
  last_of key true = refl
  last_of key false = refl

  in_directory : (key : ObjectKey) → map back_name (filter names_inode_item (map (index_by (ino_of src key)) (indexed_in (kind_in src) src.keys src.links key))) ≡ map to_back (names_in src.links key)
  in_directory key =
      let n : ℕ = ino_of src key in
      let links : List Link = names_in src.links key in
      let first : List Indexed = map (indexed (kind_in src) src.keys) links in
      let last : List Indexed = if same_key key root then (next_index src.links key, saved_entry) ∷ [] else [] in
      let test : Indexed → Bool = λ e. names_inode_item (index_by n e) in
      let kept : filter test (first ++ last) ≡ first =
      filter-append test first last
      ∙ (ap (λ (l : List Indexed). l ++ filter test last) (kept_all test first (λ x h. let f = from_map (indexed (kind_in src) src.keys) links x h in subst (λ (y : Indexed). names_inode_item (index_by n y) ≡ true) f.2 refl))
      ∙ (ap (λ (l : List Indexed). first ++ l) (last_of key (same_key key root)) ∙ append-nil first)) in
      ap (map back_name) (kept_map names_inode_item (index_by n) (first ++ last) ∙ ap (map (index_by n)) kept)
      ∙ (mapped_twice (index_by n) back_name first
      ∙ (mapped_twice (indexed (kind_in src) src.keys) (λ (e : Indexed). back_name (index_by n e)) links
      ∙ mapped_same (λ (e : Link). back_name (index_by n (indexed (kind_in src) src.keys e))) to_back links
      (all_from (λ (e : Link). back_name (index_by n (indexed (kind_in src) src.keys e)) ≡ to_back e) links (λ e h. ap (λ (k : ObjectKey). let b : BackName = record { inode = ino_of src e.link.target; dir = ino_of src k; index = e.index; name = e.link.name } in b) (sym (is_in key e h).dir_is)))))

  by_kind : (key : ObjectKey) (kind : Kind) → kind_in src key ≡ kind → map back_name (filter names_inode_item (map (index_by (ino_of src key)) (listed image m made key kind))) ≡ map to_back (names_in src.links key)
  by_kind key Directory is = in_directory key
  by_kind key File is = none_in key File is (λ e. cc e)
  by_kind key Symlink is = none_in key Symlink is (λ e. cc e)
  by_kind key Character is = none_in key Character is (λ e. cc e)
  by_kind key Block is = none_in key Block is (λ e. cc e)
  by_kind key Fifo is = none_in key Fifo is (λ e. cc e)
  by_kind key Socket is = none_in key Socket is (λ e. cc e)
  by_kind key Subvolume is = none_in key Subvolume is (λ e. cc e)

  abbrev links_all : List Link
  links_all = indexed_links src.links

  -- the names of all directories are those of all links
  of_directories : IsPermutation (map back_name (filter names_inode_item (flat_map (indexes image m made) objects))) (map to_back links_all)
  of_directories =
      let each : map back_name (filter names_inode_item (flat_map (indexes image m made) objects)) ≡ map to_back (flat_map (names_in src.links) objects) =
      ap (map back_name) (kept_flat (indexes image m made) names_inode_item objects)
      ∙ (mapped_flat (λ (key : ObjectKey). filter names_inode_item (indexes image m made key)) back_name objects
      ∙ (flat_same (λ (key : ObjectKey). map back_name (filter names_inode_item (indexes image m made key))) (λ (key : ObjectKey). map to_back (names_in src.links key)) objects (λ key h. by_kind key (kind_in src key) refl)
      ∙ sym (mapped_flat (names_in src.links) to_back objects))) in
      subst (λ (l : List BackName). IsPermutation l (map to_back links_all)) (sym each)
      (IsPermutation-map to_back (flat_map (names_in src.links) objects) links_all
      (parts_all (λ (k : ObjectKey) (e : Link). same_key e.link.dir k) links_all objects (apart_keys (ino_of src) (λ e. e.link.dir) objects climbs)
      (λ e h. (e.link.dir, in_order e.link.dir (good_link m.volume image m.options m.plan m.pieces of e.link (link_among src.links e h)).dir_known, same_key-self e.link.dir))))

  -- and so are those that the objects tell
  named_by : (key : ObjectKey) → map (back image m made key) (names_of src.links key) ≡ map to_back (names_of src.links key)
  named_by key =
      mapped_same (back image m made key) to_back (names_of src.links key)
      (all_from (λ (e : Link). back image m made key e ≡ to_back e) (names_of src.links key) (λ e h.
      let kept = from_filter (λ (f : Link). same_key f.link.target key) links_all e h in
      ap (λ (k : ObjectKey). let b : BackName = record { inode = ino_of src k; dir = parent_of src.keys e; index = e.index; name = e.link.name } in b) (sym (same_key-true e.link.target key kept.1))))

  root_none : names_of src.links root ≡ []
  root_none = no_elements (names_of src.links root) (λ e h.
      let kept = from_filter (λ (f : Link). same_key f.link.target root) links_all e h in
      (good_link m.volume image m.options m.plan m.pieces of e.link (link_among src.links e kept.0)).not_root (same_key-true e.link.target root kept.1))

  other_names : (key : ObjectKey) → Contains (filter (λ x. not (same_key x root)) all) key → names image m made key ≡ map to_back (names_of src.links key)
  other_names key h =
      let kept = from_filter (λ x. not (same_key x root)) all key h in
      by (same_key key root) kept.1 ∙ named_by key
    where
      by : (b : Bool) → not b ≡ true → (if b then own_name ∷ [] else map (back image m made key) (names_of src.links key)) ≡ map (back image m made key) (names_of src.links key)
      by false t = refl
      by true t = absurd (cc t)

  pub names_are : flat_map (names image m made) objects ≡ own_name ∷ map to_back (flat_map (names_of src.links) objects)
  names_are =
      let others : List ObjectKey = filter (λ x. not (same_key x root)) all in
      let first : names image m made root ≡ own_name ∷ [] = ap (λ (b : Bool). if b then own_name ∷ [] else map (back image m made root) (names_of src.links root)) (same_key-self root) in
      let rest : flat_map (names image m made) others ≡ map to_back (flat_map (names_of src.links) objects) =
      flat_same (names image m made) (λ (key : ObjectKey). map to_back (names_of src.links key)) others other_names
      ∙ (sym (mapped_flat (names_of src.links) to_back others) ∙ ap (λ (l : List Link). map to_back (l ++ flat_map (names_of src.links) others)) (sym root_none)) in
      ap (λ (l : List BackName). l ++ flat_map (names image m made) others) first ∙ ap (λ (l : List BackName). own_name ∷ l) rest

  of_objects : IsPermutation (map to_back (flat_map (names_of src.links) objects)) (map to_back links_all)
  of_objects =
      IsPermutation-map to_back (flat_map (names_of src.links) objects) links_all
      (parts_all (λ (k : ObjectKey) (e : Link). same_key e.link.target k) links_all objects (apart_keys (ino_of src) (λ e. e.link.target) objects climbs)
      (λ e h. (e.link.target, in_order e.link.target (good_link m.volume image m.options m.plan m.pieces of e.link (link_among src.links e h)).target_known, same_key-self e.link.target)))

  -- the names that are told, in the order of the links
  pub names_by_links : IsPermutation (flat_map (names image m made) objects) (own_name ∷ map to_back links_all)
  names_by_links =
      subst (λ (l : List BackName). IsPermutation l (own_name ∷ map to_back links_all)) (sym names_are)
      (IsPermutation-cons own_name (map to_back (flat_map (names_of src.links) objects)) (map to_back links_all) of_objects)

  pub same_names : IsPermutation (own_name ∷ map back_name (filter names_inode_item (flat_map (indexes image m made) objects))) (flat_map (names image m made) objects)
  same_names =
      let told : List BackName = map back_name (filter names_inode_item (flat_map (indexes image m made) objects)) in
      IsPermutation-trans (own_name ∷ told) (own_name ∷ map to_back links_all) (flat_map (names image m made) objects)
      (IsPermutation-cons own_name told (map to_back links_all) of_directories)
      (IsPermutation-sym (flat_map (names image m made) objects) (own_name ∷ map to_back links_all) names_by_links)
