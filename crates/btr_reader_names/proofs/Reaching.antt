-- The named inodes, as what the root reaches over the steps.
use Rattle.btr_reader_names.proofs.Imports.{◌≡◌, ℕ, zero, suc, Bool, true, ◌&&◌, List, map, filter, Contains, refl, sym, ap, subst, ◌∙◌, and_parts, and_from, FIRST_FREE_OBJECTID, TreeItem, NodeLink, NodeId, IsReachedBy, IsReached, AreReached, in_map, in_filter, from_map, from_filter, DirIndex, NameTable, dir_indexes, followed, is_followed, names_inode, IsNamedInode, root, entry, IsOpen, inode_node, is_step, step_of, AreNamed, is_open, HasNotedNames, is_dir}
use Rattle.btr_reader_names.proofs.Told.{dir_from, dir_to}

module _ (t : NameTable) (items : List TreeItem) (noted : HasNotedNames t items) where
  abbrev steps : List NodeLink
  steps = map step_of (filter (is_step t) t.namings.items)

  -- an entry of the table is one of the tree, and the other way round
  pub naming_from : (n : DirIndex) → Contains t.namings.items n → Contains (dir_indexes items) n
  naming_from n among = subst (λ (l : List DirIndex). Contains l n) noted.namings among

  pub naming_to : (n : DirIndex) → Contains (dir_indexes items) n → Contains t.namings.items n
  naming_to n among = subst (λ (l : List DirIndex). Contains l n) (sym noted.namings) among

  pub followed_from : (n : DirIndex) → Contains t.namings.items n → is_followed n ≡ true → Contains (followed items) n
  followed_from n among follows = in_filter is_followed (dir_indexes items) n (naming_from n among) follows

  pub followed_to : (n : DirIndex) → Contains (followed items) n → Contains t.namings.items n × (is_followed n ≡ true)
  followed_to n among = let r = from_filter is_followed (dir_indexes items) n among in (naming_to n r.0, r.1)

  named_from : (count : ℕ) (node : NodeId) → IsReachedBy steps (inode_node FIRST_FREE_OBJECTID) count node → (node.space ≡ 0) × IsNamedInode items node.number
  named_from zero node is = (ap (λ (n : NodeId). n.space) is, subst (λ (n : NodeId). IsNamedInode items n.number) (sym is) root)
  named_from (suc count) node (link, among, names, before) =
      let made = from_map step_of (filter (is_step t) t.namings.items) link among in
      let n : DirIndex = made.0 in
      let kept = from_filter (is_step t) t.namings.items n made.1 in
      let parts = and_parts (is_followed n) (names_inode n && is_dir t n.dir) kept.1 in
      let more = and_parts (names_inode n) (is_dir t n.dir) parts.1 in
      let dir = named_from count link.dir before in
      let named : IsNamedInode items n.dir = subst (λ (l : NodeLink). IsNamedInode items l.dir.number) (sym made.2) dir.1 in
      let target : inode_node n.location.objectid ≡ node = ap (λ (l : NodeLink). l.target) made.2 ∙ names in (
        sym (ap (λ (m : NodeId). m.space) target),
        subst (λ (m : NodeId). IsNamedInode items m.number) target (entry n (followed_from n kept.0 parts.0) named (dir_from t items noted n.dir more.1) more.0),
      )

  named_to : (ino : ℕ) → IsNamedInode items ino → IsReached steps (inode_node FIRST_FREE_OBJECTID) (inode_node ino)
  named_to _ root = (0, refl)
  named_to _ (entry n among named dir names) =
      let r = followed_to n among in
      let before = named_to n.dir named in
      let is = and_from (is_followed n) (names_inode n && is_dir t n.dir) r.1 (and_from (names_inode n) (is_dir t n.dir) names (dir_to t items noted n.dir dir)) in
      (suc before.0, (step_of n, in_map step_of (filter (is_step t) t.namings.items) n (in_filter (is_step t) t.namings.items n r.0 is), refl, before.1))

  pub named_are : (has : NodeId → Bool) → AreReached steps (inode_node FIRST_FREE_OBJECTID) has → AreNamed items has
  named_are has reached = record {
    sound = λ node is. let r = reached.sound node is in named_from r.0 node r.1;
    whole = λ ino named. reached.whole (inode_node ino) (named_to ino named);
  }

  module _ (has : NodeId → Bool) (named : AreNamed items has) (dir : ℕ) where
    pub open_from : is_open t has dir ≡ true → IsOpen items dir
    open_from is =
        let parts = and_parts (has (inode_node dir)) (is_dir t dir) is in
        record { named = (named.sound (inode_node dir) parts.0).1; directory = dir_from t items noted dir parts.1 }

    pub open_to : IsOpen items dir → is_open t has dir ≡ true
    open_to o = and_from (has (inode_node dir)) (is_dir t dir) (named.whole dir o.named) (dir_to t items noted dir o.directory)
