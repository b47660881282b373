-- What holds of a whole file tree is what part 2 asks at each number.
use Rattle.convert_core_laws.proofs.Imports.{◌≡◌, ℕ, ◌==◌, false, map, Some, sym, ap, subst, ◌∙◌, arith, inl, All, FIRST_FREE_OBJECTID, EXTENT_DATA, from_filter, Inode, Item, Directory, HasInode, HasKind, is_of_inode, ref_name_count, is_orphan, extents_in, IsThere, IndexEntry, NamedEntry, BackName, hashed_entries, index_entries, names_inode_item, ref_names, DifferInName, IsInodeNumber, IsOnForm, dir_of, given_names, KeepsRootRefs, Recount, TreeOn, of_kind, object_of, AreExtents, AreInodes, AreTreeNames, KeepsExtent, EndsInFile, KeepsExtents, all_at, all_from_contains, each_at, pairs_at, RootRefValue}
use Rattle.btr_check_rules.specs.Inodes.{IsDirEntry as StandsInDirectory, KeepsInode as KeepsNumber}
use Rattle.btr_check_rules.specs.Names.{IsNamed, IsTreeEntry as HasBoth, KeepsNames}
use Rattle.btr_check_rules.proofs.Filtered.{filter_permutation}

module _ (r : Recount) (t : TreeOn) (names : AreTreeNames r.root_tree.items t) (inodes : AreInodes r.super t) where
  abbrev IsRight : IndexEntry → Type 0
  IsRight e = names_inode_item e ≡ false → HasBoth r t e

  pub names_kept : ((a : ℕ) → KeepsRootRefs r t a) → (a : ℕ) → KeepsNames r t a
  names_kept refs a = record {
    forms = each_at object_of a IsOnForm t.items names.forms;
    entries = filter_permutation (λ (e : NamedEntry). e.dir == a) (map (λ (e : IndexEntry). e.entry) (index_entries t)) (hashed_entries t) names.entries;
    names = filter_permutation (λ (n : BackName). n.inode == a) (given_names t) (ref_names t) names.names;
    named = each_at dir_of a IsNamed (index_entries t) (λ i d h. let e = inodes.entries i d h in record { name = e.name; short = e.short; index = e.index });
    once = pairs_at dir_of a DifferInName (index_entries t) inodes.once;
    trees = each_at dir_of a IsRight (index_entries t) (λ i d h other.
        let e = names.trees i d h other in
        let same = ap (λ (x : RootRefValue). Some x) e.ref_is in
        ((inodes.entries i d h).tree other, inl (record { forth = (e.forth.0, e.forth.1, e.forth.2 ∙ same); back = (e.back.0, e.back.1, e.back.2 ∙ same) })));
    root_refs = refs a;
  }

  -- the root directory has one name
  one_name : ref_name_count t FIRST_FREE_OBJECTID ≡ 1
  one_name =
      let inode : Inode = inodes.root.0 in
      let has : HasInode t FIRST_FREE_OBJECTID inode = inodes.root.1 in
      sym (inodes.inodes FIRST_FREE_OBJECTID inode has).links ∙ ((names.inodes FIRST_FREE_OBJECTID has.body inode has.there has.reads).directory inodes.root.2).0

  pub inodes_kept : (a : ℕ) → KeepsNumber r.super t a
  inodes_kept a = record {
    root = λ at. (subst (λ (n : ℕ). HasKind t n Directory) (sym at) inodes.root, subst (λ (n : ℕ). ref_name_count t n ≡ 1) (sym at) one_name);
    entries = each_at dir_of a (StandsInDirectory t) (index_entries t) (λ i d h. let e = inodes.entries i d h in record { directory = e.directory; inode = e.inode });
    fields = λ inode has.
        let own = inodes.inodes a inode has in
        let told = names.inodes a has.body inode has.there has.reads in (
          record {
            kind = own.kind;
            bits = own.bits;
            generation = own.generation;
            flags = own.flags;
            sums = told.files;
            symlink = own.symlink;
            directory = λ is. (let one = (told.directory is).0 in omega (arith, one));
          },
          record { links = own.links; orphan = own.orphan; size = λ is. (told.directory is).1; bytes = λ kind is has_some some. told.bytes },
        );
    owned = λ i d h at plain.
        let own = inodes.owned i d h plain in
        let low = own.low in
        let high = own.high in
        (subst (λ (n : ℕ). IsThere t n) at own.there, (omega (arith, at, low), omega (arith, at, high)));
    above = inodes.above a;
  }

module _ (r : Recount) (t : TreeOn) (extents : AreExtents r.super t) where
  -- what holds of all extents holds of those of an inode
  of_inode : (P : Item → Type 0) (a : ℕ) → All P (of_kind EXTENT_DATA t.items) → All P (extents_in t a)
  of_inode P a all = all_from_contains P (extents_in t a) (λ i h. all_at P (of_kind EXTENT_DATA t.items) i all (from_filter (is_of_inode a) (of_kind EXTENT_DATA t.items) i h).0)

  pub extents_kept : (a : ℕ) → KeepsExtents r.super t a
  extents_kept a = record {
    each = of_inode (KeepsExtent r.super t) a extents.each;
    apart = extents.apart a;
    ends = of_inode EndsInFile a extents.ends;
    covering = λ off inode kind has is_kind to_bytes some k low. extents.covering off a inode kind has is_kind to_bytes some k low;
  }
