-- The names of the image's tree and of the relocation tree.
use Rattle.convert_core_laws.proofs.Imports.{◌≡◌, ◌<◌, ℕ, ◌*◌, ◌^◌, ◌==◌, Bool, true, false, List, [], ◌∷◌, length, map, filter, count_by, Some, refl, sym, ap, subst, ◌∙◌, ⊎_elim, arith, AllByRecursion, All-from_recursion, All-nil, IsPermutation-refl, INODE_ITEM, DATA_RELOC_TREE, FIRST_FREE_OBJECTID, DIRECTORY_MODE, inode_bytes, inode_layout, inode_of, make_key, Inode, inodes_read_back, Item, AreTreeNames, IsInode, AreInodes, IsDirEntry, IsOwned, KeepsInode, SameName, BackName, IndexEntry, IsThere, index_entries, own_name, inode_nbytes, ref_name_count, is_orphan, unnamed, TreeOn, NodePointer, Super, Indexed, entry_items, letters, root_ref, relocation_items, root_directory_items, sum_mapped, inode_item, inode_made, at_head, from_map, head_or_tail, Walked, walked_tree}
use Rattle.std.proofs.Common.{sum_by, All, AllPairs, Contains}
use Rattle.convert_core_laws.proofs.soundness.Flags.{stamp_fits}
use Rattle.convert_core_laws.proofs.soundness.Assembling.{Tells, count_is, entries_are, have_names, size_is, tells_of}
use Rattle.convert_core_laws.proofs.soundness.Inodes.{bytes_are}
use Rattle.convert_core_laws.proofs.soundness.NameLists.{kept_all}
use Rattle.convert_core_laws.proofs.soundness.Objects.{own_fits, own_ref}
use Rattle.convert_core_laws.proofs.soundness.Telling.{FitsEntry, Told, hash_entries, index_by, told_append, told_entries, told_inode, told_ref}

pub some_inode : (a b : Inode) → Some a ≡ Some b → a ≡ b
some_inode a b e = cc

-- ---- a root directory

pub root_told : (now : ℕ) (list : List Indexed) → AllByRecursion (FitsEntry FIRST_FREE_OBJECTID) list → Told (root_directory_items now list) (hash_entries FIRST_FREE_OBJECTID list) (map (index_by FIRST_FREE_OBJECTID) list) (own_name ∷ []) []
root_told now list fit =
    told_append (inode_item FIRST_FREE_OBJECTID (inode_made now DIRECTORY_MODE (2 * letters list) 0 0) ∷ []) (root_ref ∷ entry_items FIRST_FREE_OBJECTID list) [] (hash_entries FIRST_FREE_OBJECTID list) [] (map (index_by FIRST_FREE_OBJECTID) list) [] (own_name ∷ []) [] []
    (told_inode FIRST_FREE_OBJECTID (inode_made now DIRECTORY_MODE (2 * letters list) 0 0))
    (told_append (root_ref ∷ []) (entry_items FIRST_FREE_OBJECTID list) [] (hash_entries FIRST_FREE_OBJECTID list) [] (map (index_by FIRST_FREE_OBJECTID) list) (own_name ∷ []) [] [] [] (told_ref FIRST_FREE_OBJECTID FIRST_FREE_OBJECTID own_ref own_fits) (told_entries FIRST_FREE_OBJECTID list fit))

abbrev pub root_inode : ℕ → List Indexed → Inode
root_inode now list = inode_made now DIRECTORY_MODE (2 * letters list) 0 0

made_fits : (now size : ℕ) → now < 2 ^ 63 → size < 2 ^ 64 → inode_layout.fits (inode_made now DIRECTORY_MODE size 0 0)
unfolding inode_layout
made_fits now size low few =
    ((((((((((((((((tt, omega arith), omega arith), omega (arith, few)), omega arith), omega arith), omega arith), omega arith), omega arith), omega arith), omega arith), omega arith), omega arith), stamp_fits now low), stamp_fits now low), stamp_fits now low), stamp_fits 0 (omega arith))

pub root_reads : (now : ℕ) (list : List Indexed) → now < 2 ^ 63 → letters list < 2 ^ 63 → inode_of (inode_bytes (root_inode now list)) ≡ Some (root_inode now list)
root_reads now list low few = inodes_read_back (root_inode now list) (made_fits now (2 * letters list) low (omega (arith, few)))

pub root_inode_told : (now : ℕ) (list : List Indexed) (t : TreeOn) (names : List BackName) → Tells t.items (map (index_by FIRST_FREE_OBJECTID) list) names → inode_nbytes t FIRST_FREE_OBJECTID ≡ 0 → IsInode t FIRST_FREE_OBJECTID (root_inode now list)
root_inode_told now list t names tells none =
    let in_own : IndexEntry → Bool = λ e. e.entry.dir == FIRST_FREE_OBJECTID in
    let all : filter in_own (map (index_by FIRST_FREE_OBJECTID) list) ≡ map (index_by FIRST_FREE_OBJECTID) list = kept_all in_own (map (index_by FIRST_FREE_OBJECTID) list) (λ e h. let x = from_map (index_by FIRST_FREE_OBJECTID) list e h in subst (λ (y : IndexEntry). in_own y ≡ true) x.2 refl) in
    let size : 2 * letters list ≡ 2 * sum_by (λ e. length e.entry.name) (filter in_own (map (index_by FIRST_FREE_OBJECTID) list)) =
    ap (λ (k : ℕ). 2 * k) (sym (sum_mapped (index_by FIRST_FREE_OBJECTID) (λ (e : IndexEntry). length e.entry.name) list)) ∙ ap (λ (l : List IndexEntry). 2 * sum_by (λ e. length e.entry.name) l) (sym all) in
    record {
      directory = λ is. (refl, size ∙ sym (size_is t (map (index_by FIRST_FREE_OBJECTID) list) names tells FIRST_FREE_OBJECTID));
      other = λ no_. absurd (no_ refl);
      bytes = sym none;
      files = λ is. absurd (cc is);
    }

-- and keeps the rules of inodes, with one name
pub root_inode_keeps : (now : ℕ) (list : List Indexed) (sup : Super) (t : TreeOn) (names : List BackName) → Tells t.items (map (index_by FIRST_FREE_OBJECTID) list) names → count_by (λ n. n.inode == FIRST_FREE_OBJECTID) names ≡ 1
    → KeepsInode sup t FIRST_FREE_OBJECTID (root_inode now list)
root_inode_keeps now list sup t names tells one =
    let count : ref_name_count t FIRST_FREE_OBJECTID ≡ 1 = count_is t (map (index_by FIRST_FREE_OBJECTID) list) names tells FIRST_FREE_OBJECTID ∙ one in
    record {
      kind = refl;
      bits = omega arith;
      generation = (omega arith, omega arith);
      links = sym count;
      orphan = λ none. absurd (omega (arith, none, count));
      flags = refl;
      symlink = λ is. refl;
    }

-- ---- the relocation tree

module _ (now : ℕ) (low : now < 2 ^ 63) (nodes : Walked) (roots : List Item) where
  abbrev pub relocation : TreeOn
  relocation = walked_tree DATA_RELOC_TREE nodes (relocation_items now)

  relocation_tells : Tells (relocation_items now) [] (own_name ∷ [])
  unfolding relocation_items
  relocation_tells = tells_of (root_directory_items now []) [] [] (own_name ∷ []) [] (own_name ∷ []) (root_told now [] tt) (IsPermutation-refl []) (IsPermutation-refl (own_name ∷ []))

  relocation_bytes : inode_nbytes relocation FIRST_FREE_OBJECTID ≡ 0
  unfolding relocation_items
  relocation_bytes = bytes_are relocation FIRST_FREE_OBJECTID

  relocation_inode : (ino : ℕ) (body : List ℕ) → Contains (relocation_items now) (make_key ino INODE_ITEM 0, body) → inode_item FIRST_FREE_OBJECTID (root_inode now []) ≡ (make_key ino INODE_ITEM 0, body)
  unfolding relocation_items
  relocation_inode ino body h =
      ⊎_elim (λ e. e)
      (λ (later : Contains (root_ref ∷ []) (make_key ino INODE_ITEM 0, body)). ⊎_elim (λ (e : root_ref ≡ (make_key ino INODE_ITEM 0, body)). let kind : 12 ≡ 1 = ap (λ (i : Item). i.0.kind) e in absurd (omega (arith, kind)))
      (λ (none : Contains [] (make_key ino INODE_ITEM 0, body)). absurd (omega (arith, none.1))) (head_or_tail root_ref [] (make_key ino INODE_ITEM 0, body) later))
      (head_or_tail (inode_item FIRST_FREE_OBJECTID (root_inode now [])) (root_ref ∷ []) (make_key ino INODE_ITEM 0, body) h)

  pub relocation_names : AreTreeNames roots relocation
  relocation_names =
      have_names relocation [] (own_name ∷ []) relocation_tells roots (IsPermutation-refl (own_name ∷ [])) (λ e h. absurd (omega (arith, h.1))) (λ e h. absurd (omega (arith, h.1))) (λ ino body inode h read.
      let is = relocation_inode ino body h in
      let number : 256 ≡ ino = ap (λ (i : Item). i.0.objectid) is in
      let same : root_inode now [] ≡ inode = some_inode (root_inode now []) inode (sym (root_reads now [] low (omega arith)) ∙ (ap (λ (i : Item). inode_of i.1) is ∙ read)) in
      subst (IsInode relocation ino) same (subst (λ (k : ℕ). IsInode relocation k (root_inode now [])) number (root_inode_told now [] relocation (own_name ∷ []) relocation_tells relocation_bytes)))

  relocation_item : Contains (relocation_items now) (inode_item FIRST_FREE_OBJECTID (root_inode now []))
  unfolding relocation_items
  relocation_item = at_head (inode_item FIRST_FREE_OBJECTID (root_inode now [])) (root_ref ∷ [])

  abbrev relocation_there : IsThere relocation FIRST_FREE_OBJECTID
  relocation_there = (inode_bytes (root_inode now []), relocation_item)

  relocation_owned : All (λ i. is_orphan i ≡ false → IsOwned relocation i) (relocation_items now)
  unfolding relocation_items
  relocation_owned =
      All-from_recursion (λ (i : Item). is_orphan i ≡ false → IsOwned relocation i) (inode_item FIRST_FREE_OBJECTID (root_inode now []) ∷ (root_ref ∷ []))
      ((λ plain. record { there = relocation_there; low = omega arith; high = omega arith }), ((λ plain. record { there = relocation_there; low = omega arith; high = omega arith }), tt))

  pub relocation_inodes : (sup : Super) → AreInodes sup relocation
  relocation_inodes sup =
      let none : index_entries relocation ≡ [] = entries_are relocation [] (own_name ∷ []) relocation_tells in
      record {
        root = (root_inode now [], record { body = inode_bytes (root_inode now []); there = relocation_item; reads = root_reads now [] low (omega arith) }, refl);
        entries = subst (All (IsDirEntry relocation)) (sym none) (All-nil (IsDirEntry relocation));
        once = subst (AllPairs (λ (e f : IndexEntry). ¬ SameName e f)) (sym none) (λ i j d l h. absurd (omega (arith, h)));
        inodes = λ ino inode has.
            let is = relocation_inode ino has.body has.there in
            let number : 256 ≡ ino = ap (λ (i : Item). i.0.objectid) is in
            let same : root_inode now [] ≡ inode = some_inode (root_inode now []) inode (sym (root_reads now [] low (omega arith)) ∙ (ap (λ (i : Item). inode_of i.1) is ∙ has.reads)) in
            subst (KeepsInode sup relocation ino) same (subst (λ (k : ℕ). KeepsInode sup relocation k (root_inode now [])) number (root_inode_keeps now [] sup relocation (own_name ∷ []) relocation_tells refl));
        owned = relocation_owned;
        above = λ ino has. unnamed ino (λ e h to_inode same. absurd (let among = subst (λ (l : List IndexEntry). Contains l e) none h in omega (arith, among.1)));
      }
