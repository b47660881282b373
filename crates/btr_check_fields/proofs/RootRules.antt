-- The test of a root item tells what is asked of it.
use Rattle.btr_check_fields.proofs.Imports.{◌≡◌, ℕ, ◌%◌, ◌≤◌, ◌==◌, ◌⊎◌, inl, inr, true, false, List, Option, Some, None, refl, sym, ap, subst, ◌∙◌, ⊎_elim, Decides, both_ways, cases_Bool, false≢true, Decides-and, Decides-eqb, Decides-like, Decides-ltb, Decides-not, Decides-or, ROOT_SUBVOL_RDONLY, FIRST_FREE_OBJECTID, TREE_RELOC, Key, Super, holds_files, has_files_root, is_whole, keeps_root, keeps_some_root}
use Rattle.std.proofs.Common.{◌<◌}
use Rattle.btr_check_rules.specs.Trees.{IsRootItem}
use Rattle.btr_check_rules.specs.btr_reader.btr_space_items.RootItem.{root_item_of}
use Rattle.btr_check_rules.specs.btr_reader.btr_space_items.declared.root_item.RootItem.{RootItem}
use Rattle.btr_check_rules.specs.btr_reader.btr_reader_walk.Nodes.{is_file_tree}
use Rattle.btr_check_fields.proofs.Deciding.{decides_leb, itself}
use Rattle.btr_check_fields.proofs.Listing.{not_none, some_same}

abbrev zero_key : Key
zero_key = record { objectid = 0; kind = 0; offset = 0 }

same_key : (k : Key) → k.objectid ≡ 0 → k.kind ≡ 0 → k.offset ≡ 0 → k ≡ zero_key
same_key k a b c = let same : record { objectid = k.objectid; kind = k.kind; offset = k.offset } ≡ zero_key = cc in same

abbrev IsWhole : RootItem → Type 0
IsWhole root = (root.drop_progress ≡ zero_key) × (root.drop_level ≡ 0)

abbrev WholeParts : RootItem → Type 0
WholeParts root = (root.drop_progress.objectid ≡ 0) × ((root.drop_progress.kind ≡ 0) × ((root.drop_progress.offset ≡ 0) × (root.drop_level ≡ 0)))

decides_whole : (root : RootItem) → Decides (is_whole root) (IsWhole root)
decides_whole root =
    Decides-like {P = WholeParts root} {Q = IsWhole root} (is_whole root)
    (λ p. (same_key root.drop_progress p.0 p.1.0 p.1.1.0, p.1.1.1))
    (λ is. (ap (λ (k : Key). k.objectid) is.0, (ap (λ (k : Key). k.kind) is.0, (ap (λ (k : Key). k.offset) is.0, is.1))))
    (Decides-and _ _ (Decides-eqb root.drop_progress.objectid 0)
    (Decides-and _ _ (Decides-eqb root.drop_progress.kind 0) (Decides-and _ _ (Decides-eqb root.drop_progress.offset 0) (Decides-eqb root.drop_level 0))))

abbrev IsFilesRoot : ℕ → RootItem → Type 0
IsFilesRoot number root = holds_files number ≡ true → (root.refs ≡ 1) × (root.root_dirid ≡ FIRST_FREE_OBJECTID)

abbrev FilesParts : ℕ → RootItem → Type 0
FilesParts number root = (¬ (holds_files number ≡ true)) ⊎ ((root.refs ≡ 1) × (root.root_dirid ≡ FIRST_FREE_OBJECTID))

files_to : (number : ℕ) (root : RootItem) → FilesParts number root → IsFilesRoot number root
files_to number root (inl not_so) = λ holds. absurd (not_so holds)
files_to number root (inr is) = λ holds. is

files_from : (number : ℕ) (root : RootItem) → IsFilesRoot number root → FilesParts number root
files_from number root is =
    ⊎_elim (λ (is_so : holds_files number ≡ true). inr (is is_so)) (λ (not_so : holds_files number ≡ false). inl (λ holds. both_ways (holds_files number) not_so holds)) (cases_Bool (holds_files number))

decides_files : (number : ℕ) (root : RootItem) → Decides (has_files_root number root) (IsFilesRoot number root)
decides_files number root =
    Decides-like (has_files_root number root) (files_to number root) (files_from number root)
    (Decides-or _ _ (Decides-not (holds_files number) (itself (holds_files number))) (Decides-and _ _ (Decides-eqb root.refs 1) (Decides-eqb root.root_dirid FIRST_FREE_OBJECTID)))

abbrev Parts : Super → Key → RootItem → Type 0
Parts s k root =
    (root.generation ≤ s.generation)
    × ((root.generation_v2 ≤ s.generation)
    × ((root.last_snapshot ≤ s.generation)
    × ((root.bytenr % 4096 ≡ 0)
    × ((root.level < 8)
    × ((root.flags ≤ ROOT_SUBVOL_RDONLY)
    × (IsWhole root × ((¬ (k.objectid ≡ TREE_RELOC)) × (((k.offset ≡ 0) ⊎ (is_file_tree k.objectid ≡ true)) × IsFilesRoot k.objectid root))))))))

decides_parts : (s : Super) (k : Key) (root : RootItem) → Decides (keeps_root s k root) (Parts s k root)
decides_parts s k root =
    Decides-and _ _ (decides_leb root.generation s.generation)
    (Decides-and _ _ (decides_leb root.generation_v2 s.generation)
    (Decides-and _ _ (decides_leb root.last_snapshot s.generation)
    (Decides-and _ _ (Decides-eqb (root.bytenr % 4096) 0)
    (Decides-and _ _ (Decides-ltb root.level 8)
    (Decides-and _ _ (decides_leb root.flags ROOT_SUBVOL_RDONLY)
    (Decides-and _ _ (decides_whole root)
    (Decides-and _ _ (Decides-not (k.objectid == TREE_RELOC) (Decides-eqb k.objectid TREE_RELOC))
    (Decides-and _ _ (Decides-or _ _ (Decides-eqb k.offset 0) (itself (is_file_tree k.objectid))) (decides_files k.objectid root)))))))))

root_from : (s : Super) (k : Key) (body : List ℕ) (root : RootItem) → root_item_of body ≡ Some root → Parts s k root → IsRootItem s (k, body)
root_from s k body root is (generation, (second, (snapshot, (address, (level, (flags, (whole, (settled, (place, files))))))))) = record {
  root = root;
  root_is = is;
  generations = (generation, second, snapshot);
  address = address;
  level = level;
  flags = flags;
  whole = whole;
  settled = settled;
  place = place;
  files = files;
}

root_parts : (s : Super) (k : Key) (body : List ℕ) → (is : IsRootItem s (k, body)) → Parts s k is.root
root_parts s k body is =
    (is.generations.0, (is.generations.1, (is.generations.2, (is.address, (is.level, (is.flags, (is.whole, (is.settled, (is.place, is.files)))))))))

by_root : (s : Super) (k : Key) (body : List ℕ) (o : Option RootItem) → root_item_of body ≡ o → Decides (keeps_some_root s k o) (IsRootItem s (k, body))
by_root s k body None none = ((λ not_so. absurd (false≢true not_so)), (λ is. absurd (not_none is.root (sym none ∙ is.root_is))))
by_root s k body (Some root) some = (
  (λ is_so. root_from s k body root some ((decides_parts s k root).0 is_so)),
  (λ is. (decides_parts s k root).1 (subst (Parts s k) (some_same is.root root (sym is.root_is ∙ some)) (root_parts s k body is))),
)

pub decides_root : (s : Super) (k : Key) (body : List ℕ) → Decides (keeps_some_root s k (root_item_of body)) (IsRootItem s (k, body))
decides_root s k body = by_root s k body (root_item_of body) refl
