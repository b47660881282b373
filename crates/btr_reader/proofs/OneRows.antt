-- The rows of a volume are one list.
use Rattle.btr_reader.proofs.Imports.{◌≡◌, ℕ, ◌+◌, ◌<◌, Bool, append_assoc, length-take-le, List, [], ◌∷◌, ◌++◌, length, get_or, take, drop, Contains, Some, ⊎_elim, refl, sym, ap, subst, ◌∙◌, arith, cases_lt, nat_tests, get_or_default, FS_TREE, Image, Inode, MapRange, NodePointer, TreeItem, found, NameList, WholeRow, name_count, Kind, neither_above, DirIndex, kind_of_mode, IsDirectoryInode, dir_indexes, followed, is_followed, IsNamedInode, root, entry, Target, inode, tree, NamesTarget, LeadsToTarget, has_root, AreIn, IsOpen, KeepsNames, twice, from_filter, BtrfsRowsAreOne, row_by, bytes_at, tree_of, pointer_of, top, IsLeastPath, IsInodeRow, IsRowOf, AreRows, roots_on, bad_names, subvolume_row}
use Rattle.std.proofs.Math.ListN.{get_or-append}
use Rattle.fs_paths.proofs.OneList.{rows_one}
use Rattle.btr_reader_names.proofs.Members.{with_rest}

-- two elements at places one behind the other
in_order : {X : Type 0} (xs : List X) (x y : X) (i j : ℕ) → i < j → j < length xs → get_or xs i x ≡ x → get_or xs j y ≡ y → AreIn xs x y
in_order {X = X} xs x y i j less within first second =
    let split : xs ≡ take j xs ++ (y ∷ drop (j + 1) xs) = with_rest xs j y within (sym second) ∙ append_assoc (take j xs) (y ∷ []) (drop (j + 1) xs) in
    let long : length (take j xs) ≡ j = length-take-le j xs (omega (arith, within)) in
    let short : i < length (take j xs) = omega (arith, long, less) in
    record {
      before = take j xs;
      after = drop (j + 1) xs;
      split = split;
      earlier = (i, short, sym (get_or-append (take j xs) (y ∷ drop (j + 1) xs) x i short) ∙ (sym (ap (λ (l : List X). get_or l i x) split) ∙ first));
    }

-- an entry names one thing
target_one : (n : DirIndex) (a b : Target) → NamesTarget n a → NamesTarget n b → a ≡ b
target_one n (inode a) (inode b) (is, first) (also, second) = ap (λ (ino : ℕ). inode ino) (sym first ∙ second)
target_one n (inode a) (tree b) (is, first) (also, second) = absurd (grind (arith, nat_tests, is, also))
target_one n (tree a) (inode b) (is, first) (also, second) = absurd (grind (arith, nat_tests, is, also))
target_one n (tree a) (tree b) (is, first) (also, second) = ap (λ (number : ℕ). tree number) (sym first ∙ second)

module _ (has : ℕ → Bool) (items : List TreeItem) (address : ℕ) (keeps : KeepsNames has items address) where
  -- no named directory has one name twice
  one_name : (m n : DirIndex) → Contains (dir_indexes items) m → Contains (dir_indexes items) n → IsOpen items n.dir → m.dir ≡ n.dir → m.name ≡ n.name → m ≡ n
  one_name m n (i, low, first) (j, below, second) opened dir name =
      ⊎_elim
      (λ less. absurd (keeps _ (twice m n (in_order (dir_indexes items) m n i j less below first second) opened dir name refl)))
      (λ not_less. ⊎_elim
      (λ more. absurd (keeps _ (twice n m (in_order (dir_indexes items) n m j i more low second first) (subst (λ (d : ℕ). IsOpen items d) (sym dir) opened) (sym dir) (sym name) refl)))
      (λ not_more.
      let same : i ≡ j = omega (arith, not_less, not_more) in
      sym first ∙ (ap (λ (k : ℕ). get_or (dir_indexes items) k m) same ∙ (get_or_default (dir_indexes items) j m n below ∙ second)))
      (cases_lt j i))
      (cases_lt i j)

  abbrev IsStart : Target → Type 0
  IsStart (inode ino) = IsNamedInode items ino
  IsStart (tree number) = Unit {0}

  goes_on : (n : DirIndex) (next : Target) → Contains (followed items) n → IsNamedInode items n.dir → IsDirectoryInode items n.dir → NamesTarget n next → IsStart next
  goes_on n (inode ino) among named directory (is, to) = subst (IsNamedInode items) to (entry n among named directory is)
  goes_on n (tree number) among named directory names = tt

  -- a path leads to one thing
  leads_one : (from : Target) (path : NameList) (a b : Target) → IsStart from → LeadsToTarget items from path a → LeadsToTarget items from path b → a ≡ b
  leads_one from [] a b start first second = sym first ∙ second
  leads_one (tree number) (name ∷ names) a b start first second = absurd first
  leads_one (inode ino) (name ∷ names) a b start (m, next, among, dir, directory, called, gives, leads) (n, after, other, its_dir, its_directory, its_name, also, follows) =
      let named : IsNamedInode items n.dir = subst (IsNamedInode items) (sym its_dir) start in
      let opened : IsOpen items n.dir = record { named = named; directory = subst (IsDirectoryInode items) (sym its_dir) its_directory } in
      let same : m ≡ n = one_name m n (from_filter is_followed (dir_indexes items) m among).0 (from_filter is_followed (dir_indexes items) n other).0 opened (dir ∙ sym its_dir) (called ∙ sym its_name) in
      let to : next ≡ after = target_one m next after gives (subst (λ (x : DirIndex). NamesTarget x after) (sym same) also) in
      let on : IsStart next = goes_on m next among (subst (IsNamedInode items) (sym dir) start) (subst (IsDirectoryInode items) (sym dir) directory) gives in
      leads_one next names a b on leads (subst (λ (t : Target). LeadsToTarget items t names b) (sym to) follows)

  least_one : (ino : ℕ) (p q : NameList) → IsLeastPath items ino p → IsLeastPath items ino q → p ≡ q
  least_one ino p q first second = neither_above p q (first.least q second.leads) (second.least p first.leads)

  module _ (image : Image) (ranges : List MapRange) where
    -- the row of an inode with these names
    row_for : ℕ → Inode → Kind → NameList → NameList → ℕ → WholeRow
    row_for ino own kind path least names = row_by own kind path least names (bytes_at image ranges items ino own kind)

    row_is : (rows : List WholeRow) (ino : ℕ) (row : WholeRow) (r : IsInodeRow image ranges items rows ino row) → row ≡ row_for ino r.own row.kind row.path row.least (name_count rows row.least)
    unfolding row_for
    row_is rows ino row r = λ j. record {
      path = row.path;
      kind = row.kind;
      mode = r.fields.mode j;
      uid = r.fields.uid j;
      gid = r.fields.gid j;
      atime = r.fields.atime j;
      mtime = r.fields.mtime j;
      ctime = r.fields.ctime j;
      sync = r.fields.sync j;
      immutable = r.fields.immutable j;
      append = r.fields.append j;
      nodump = r.fields.nodump j;
      noatime = r.fields.noatime j;
      major = r.fields.major j;
      minor = r.fields.minor j;
      least = row.least;
      names = r.names j;
      bytes = r.bytes j;
    }

    row_leads : (rows : List WholeRow) (row : WholeRow) (to : Target) → IsRowOf image ranges items rows to row → LeadsToTarget items top row.path to
    row_leads rows row (inode ino) r = r.leads
    row_leads rows row (tree number) r = r.leads

    inode_row : (rows others : List WholeRow) (ino : ℕ) (a b : WholeRow) → IsInodeRow image ranges items rows ino a → IsInodeRow image ranges items others ino b → a.path ≡ b.path
        → ((path : NameList) → name_count rows path ≡ name_count others path) → a ≡ b
    inode_row rows others ino a b first second same counts =
        let told : Some first.own ≡ Some second.own = sym first.has ∙ second.has in
        let own : first.own ≡ second.own = cc in
        let kinds : Some a.kind ≡ Some b.kind = sym first.fields.kind ∙ (ap (λ (i : Inode). kind_of_mode i.mode) own ∙ second.fields.kind) in
        let kind : a.kind ≡ b.kind = cc in
        let least : a.least ≡ b.least = least_one ino a.least b.least first.least second.least in
        let names : name_count rows a.least ≡ name_count others b.least = counts a.least ∙ ap (name_count others) least in
        row_is rows ino a first ∙ ((λ j. row_for ino (own j) (kind j) (same j) (least j) (names j)) ∙ sym (row_is others ino b second))

    module _ (rows others : List WholeRow) (a b : WholeRow) (same : a.path ≡ b.path) where
      least_of : (p : Target) → IsRowOf image ranges items rows p a → IsRowOf image ranges items others p b → a.least ≡ b.least
      least_of (inode ino) first second = least_one ino a.least b.least first.least second.least
      least_of (tree number) first second =
          ap (λ (row : WholeRow). row.least) first.is ∙ (same ∙ sym (ap (λ (row : WholeRow). row.least) second.is))

      row_of_one : (p : Target) → IsRowOf image ranges items rows p a → IsRowOf image ranges items others p b → ((path : NameList) → name_count rows path ≡ name_count others path) → a ≡ b
      row_of_one (inode ino) first second counts = inode_row rows others ino a b first second same counts
      row_of_one (tree number) first second counts = first.is ∙ (ap (λ (path : NameList). subvolume_row path) same ∙ sym second.is)

      one_target : (p q : Target) → IsRowOf image ranges items rows p a → IsRowOf image ranges items others q b → q ≡ p
      one_target p q first second =
          leads_one top b.path q p root (row_leads others b q second) (subst (λ (path : NameList). LeadsToTarget items top path p) same (row_leads rows a p first))

      pub one_least : (p q : Target) → IsRowOf image ranges items rows p a → IsRowOf image ranges items others q b → a.least ≡ b.least
      one_least p q first second = least_of p first (subst (λ (t : Target). IsRowOf image ranges items others t b) (one_target p q first second) second)

      pub one_row : (p q : Target) → IsRowOf image ranges items rows p a → IsRowOf image ranges items others q b → ((path : NameList) → name_count rows path ≡ name_count others path) → a ≡ b
      one_row p q first second counts = row_of_one p first (subst (λ (t : Target). IsRowOf image ranges items others t b) (one_target p q first second) second) counts

    pub are_one : (rows others : List WholeRow) → AreRows image ranges items rows → AreRows image ranges items others → rows ≡ others
    are_one rows others first second =
        rows_one rows others first.ascends second.ascends
        (λ row among. let e = first.each row among in second.whole row.path e.0 (row_leads rows row e.0 e.1))
        (λ row among. let e = second.each row among in first.whole row.path e.0 (row_leads others row e.0 e.1))
        (λ a b among other path. let p = first.each a among in let q = second.each b other in one_least rows others a b path p.0 q.0 p.1 q.1)
        (λ counts a b among other path. let p = first.each a among in let q = second.each b other in one_row rows others a b path p.0 q.0 p.1 q.1 counts)

pub rows_are_one : BtrfsRowsAreOne
rows_are_one image s ranges rows others first second =
    let known : Some first.item ≡ Some second.item = sym first.has_item ∙ second.has_item in
    let item : first.item ≡ second.item = cc in
    let pointed : Some first.at ≡ Some second.at = sym first.has_root ∙ (ap (λ (i : TreeItem). pointer_of i.body) item ∙ second.has_root) in
    let at : first.at ≡ second.at = cc in
    let items = found image ranges (tree_of s FS_TREE first.at) in
    let keeps : KeepsNames (has_root (roots_on image s ranges)) items first.at.address = λ r broken. first.readable r (bad_names first.item first.at first.has_item first.has_root broken) in
    are_one (has_root (roots_on image s ranges)) items first.at.address keeps image ranges rows others first.rows_are
    (subst (λ (p : NodePointer). AreRows image ranges (found image ranges (tree_of s FS_TREE p)) others) (sym at) second.rows_are)
