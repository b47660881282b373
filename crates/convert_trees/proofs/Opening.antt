-- The trees that are written first: what each needs is there, and all stand in the end.
use Rattle.convert_trees.proofs.Imports.{◌≡◌, ◌∙◌, ℕ, ◌+◌, ◌-◌, ◌<◌, ◌≤◌, ◌++◌, ◌∷◌, Bool, List, [], if◌then◌else◌, drop, take, map, get_or, length, append_assoc, refl, sym, ap, subst, arith, length-drop, append-nil, sum_by, keys, Image, History, WritesOnly, reads, writes_none, Item, IsNodeSize, tree_nodes, lengths_of, IsInSlots, Root, SameUsed, has, links_in, IsAccepted, superblock, used_of, same_volume, FitLeaves, sum_items, TreeNode, nodes_of_tree, roomy, Volume, IsSlotRow, LieApart, SameWhere, AreWritable, read_form, NodeForm, Trees, apart_left, PlannedChunk, Options, Piece, Ids, Adds, first_items, AddsRow, FitRow, row_count, HasPlacedPieces, IsInPieces, IsUsedBlock, sum_by-take-le, tree_number, NewTree, behind_least, nodes-append, row_counted, stand-append, items_by, nodes_behind, slot_behind, PlacedTree}
use Rattle.unit_plan.proofs.Lists.{sum_next}
use Rattle.file_items.specs.Tree.{Source, source_of, fs_tree_items}
use Rattle.reiser_volume.specs.reiser_walk.Items.{ReiserItem}
use Rattle.convert_trees.proofs.Staying.{volume_stays}
use Rattle.convert_trees.proofs.Behind.{IsInRest, row_is}
use Rattle.convert_trees.proofs.Going.{Goes, row_stands, same_where, still_apart}
use Rattle.convert_trees.proofs.Sums.{sum_items_same}

-- the items of the file tree, read off these blocks
abbrev pub files_in : Volume → Options → List Piece → Image → List Item
files_in volume o pieces image = fs_tree_items (source_of volume pieces o.inline o.datasum image)

-- they are decided by the used blocks
pub files_same : (volume : Volume) (o : Options) (pieces : List Piece) (image other : Image) → IsAccepted image → SameUsed (used_of image) image other → (superblock image).blocks ≤ length other
    → files_in volume o pieces other ≡ files_in volume o pieces image
files_same volume o pieces image other accepted same room = ap (λ (items : List ReiserItem). fs_tree_items (made_from items)) (same_volume image other accepted same room).items
  where
    made_from : List ReiserItem → Source
    made_from items = record {
      flags = volume.sup.flags;
      items = items;
      keys = keys volume.named;
      links = links_in volume;
      pieces = pieces;
      inline = o.inline;
      datasum = o.datasum;
    }

-- what the trees are made from when the first is begun: the volume, whose used blocks and pieces no slot touches
pub record Begins (volume : Volume) (pieces : List Piece) (row : Trees) (image : Image) (h : History) : Type 0 where
  pub is_row : IsSlotRow row
  pub blocks : reads h ≡ image
  pub there : HasPlacedPieces volume pieces image
  pub used : LieApart (IsUsedBlock volume) row.form.nodesize row.slots
  pub placed : LieApart (IsInPieces pieces) row.form.nodesize row.slots

module _ (volume : Volume) (pieces : List Piece) (row : Trees) (image : Image) (h₀ : History) (begins : Begins volume pieces row image h₀) (mid : Trees) (n : ℕ) (h : History) (goes : Goes row mid n h₀ h) where
  pub has_still : HasPlacedPieces volume pieces (reads h)
  has_still =
      volume_stays volume pieces image (reads h)
      (same_where (IsUsedBlock volume) row image h₀ h (apart_left (IsUsedBlock volume) row.form.nodesize row.taken row.slots begins.used) begins.blocks goes.only)
      begins.there

  pub used_still : LieApart (IsUsedBlock volume) mid.form.nodesize mid.slots
  used_still = still_apart (IsUsedBlock volume) row mid n h₀ h goes begins.used

  pub placed_still : LieApart (IsInPieces pieces) mid.form.nodesize mid.slots
  placed_still = still_apart (IsInPieces pieces) row mid n h₀ h goes begins.placed

  pub sums_still : (o : Options) → (if o.datasum then sum_items o.sums (reads h) pieces else []) ≡ (if o.datasum then sum_items o.sums image pieces else [])
  sums_still o =
      ap (λ (items : List Item). if o.datasum then items else [])
      (sum_items_same o.sums image (reads h) pieces
      (same_where (IsInPieces pieces) row image h₀ h (apart_left (IsInPieces pieces) row.form.nodesize row.taken row.slots begins.placed) begins.blocks goes.only))

  pub items_still : (o : Options) (ids : Ids) (now : ℕ) (chunks : List PlannedChunk) (t : NewTree) → first_items volume pieces o ids now chunks (reads h) t ≡ first_items volume pieces o ids now chunks image t
  items_still o ids now chunks t = items_by volume o ids now pieces chunks (reads h) image (reads h) image files_still (sums_still o) t
    where
      same : SameWhere (IsUsedBlock volume) image (reads h)
      same = same_where (IsUsedBlock volume) row image h₀ h (apart_left (IsUsedBlock volume) row.form.nodesize row.taken row.slots begins.used) begins.blocks goes.only

      files_still : files_in volume o pieces (reads h) ≡ files_in volume o pieces image
      files_still =
          files_same volume o pieces image (reads h) begins.there.accepted
          (λ b marked. same.blocks b (ap (λ (bits : List Bool). has bits b) begins.there.opened.bitmap ∙ marked))
          (subst (λ (k : ℕ). (superblock image).blocks ≤ k) (sym same.as_many) begins.there.room)

-- a tree can be written where slots are left for its nodes
pub writable : (row mid : Trees) (n : ℕ) (h₀ h : History) (items : List Item) → IsSlotRow row → Goes row mid n h₀ h → FitLeaves items → row.taken + n + tree_nodes row.form.nodesize (lengths_of items) ≤ length row.slots
    → AreWritable mid.form.nodesize (drop mid.taken mid.slots) items
writable row mid n h₀ h items is goes fit few =
    subst (λ (f : NodeForm). AreWritable f.nodesize (drop mid.taken mid.slots) items) (sym goes.form)
    (subst (λ (s : List ℕ). AreWritable row.form.nodesize (drop mid.taken s) items) (sym goes.slots) (record {
      order = fit.ascend;
      short = λ i d inside. omega (arith, fit.short i d inside, least row.form.nodesize is.size);
      few = omega (arith, few, goes.taken, length-drop mid.taken row.slots);
    }))
  where
    least : (size : ℕ) → IsNodeSize size → 4096 ≤ size
    least size is = omega (arith, roomy size is)

-- ---- one tree more

module _ (row : Trees) (items : NewTree → List Item) (trees : List NewTree) where
  -- how far the writing is: these trees stand, one behind the other
  pub adds_none : (image : Image) → AddsRow image row row items []
  adds_none image = record { stand = tt; nodes = sym (append-nil row.nodes) }

  -- the slots that the first trees take
  pub taken_is : (image : Image) (mid : Trees) (placed : List PlacedTree) (i : ℕ) → AddsRow image row mid items placed → map (λ p. p.tree) placed ≡ take i trees
      → slot_behind row.taken placed ≡ row.taken + row_count row.form.nodesize items (take i trees)
  taken_is image mid placed i adds are =
      row_counted row.slots items image (read_form row.form) row.taken placed adds.stand
      ∙ ap (λ (ts : List NewTree). row.taken + row_count row.form.nodesize items ts) are

  -- the next one can be written
  pub next_writable : (image : Image) (mid : Trees) (placed : List PlacedTree) (i : ℕ) (d : NewTree) (h₀ h : History) → IsSlotRow row → FitRow row items trees → AddsRow image row mid items placed
      → Goes row mid (slot_behind row.taken placed - row.taken) h₀ h → map (λ p. p.tree) placed ≡ take i trees → i < length trees
      → AreWritable mid.form.nodesize (drop mid.taken mid.slots) (items (get_or trees i d))
  next_writable image mid placed i d h₀ h is fit adds goes are inside =
      let t : NewTree = get_or trees i d in
      let f : NewTree → ℕ = λ u. tree_nodes row.form.nodesize (lengths_of (items u)) in
      let before = taken_is image mid placed i adds are in
      let least = behind_least row.taken placed in
      let more = sum_next f trees i d (sum_by f (take i trees)) (f t) inside refl refl in
      let all = sum_by-take-le f trees (i + 1) in
      writable row mid (slot_behind row.taken placed - row.taken) h₀ h (items t) is goes (fit.each i d inside) (room _ _ _ _ _ _ _ before least more all fit.few)
    where
      room : (behind taken first own after all long : ℕ) → behind ≡ taken + first → taken ≤ behind → first + own ≡ after → after ≤ all → taken + all ≤ long → taken + (behind - taken) + own ≤ long
      room behind taken first own after all long a b c d e = omega (arith, a, b, c, d, e)

  -- and stands then behind the others
  pub adds_more : (mid new : Trees) (placed : List PlacedTree) (t : NewTree) (root : Root) (h₁ h₂ : History) → IsSlotRow row → (mid.form ≡ row.form) × (mid.slots ≡ row.slots) → mid.taken ≡ slot_behind row.taken placed
      → AddsRow (reads h₁) row mid items placed → WritesOnly (λ b _. IsInRest mid b) h₁ h₂ → Adds (reads h₂) mid new (tree_number t) (items t) root
      → AddsRow (reads h₂) row new items (placed ++ record { tree = t; root = root } ∷ [])
  adds_more mid new placed t root h₁ h₂ is same taken before only adds =
      let end : ℕ = slot_behind row.taken placed in
      let one : PlacedTree = record { tree = t; root = root } in
      let at_form : WritesOnly (λ b _. IsInSlots row.form.nodesize (drop mid.taken mid.slots) b) h₁ h₂ = subst (λ (f : NodeForm). WritesOnly (λ b _. IsInSlots f.nodesize (drop mid.taken mid.slots) b) h₁ h₂) same.0 only in
      let at_slots : WritesOnly (λ b _. IsInSlots row.form.nodesize (drop mid.taken row.slots) b) h₁ h₂ = subst (λ (s : List ℕ). WritesOnly (λ b _. IsInSlots row.form.nodesize (drop mid.taken s) b) h₁ h₂) same.1 at_form in
      let behind : WritesOnly (λ b _. IsInSlots row.form.nodesize (drop end row.slots) b) h₁ h₂ = subst (λ (n : ℕ). WritesOnly (λ b _. IsInSlots row.form.nodesize (drop n row.slots) b) h₁ h₂) taken at_slots in
      let known : Adds (reads h₂) (record { form = row.form; slots = row.slots; taken = end; nodes = mid.nodes }) new (tree_number t) (items t) root =
      subst (λ (x : Trees). Adds (reads h₂) x new (tree_number t) (items t) root) (row_is mid row.form row.slots end mid.nodes same.0 same.1 taken refl) adds in
      record {
        stand =
            stand-append row.slots items (reads h₂) (read_form row.form) row.taken placed (one ∷ [])
            (row_stands (read_form row.form) row.slots items end h₁ h₂ is.size is.slots behind row.taken placed (omega arith) before.stand)
            (known.stands, tt);
        nodes =
            known.nodes
            ∙ (ap (λ (ns : List TreeNode). ns ++ nodes_of_tree (tree_number t) row.form.nodesize (lengths_of (items t)) (drop end row.slots)) before.nodes
            ∙ (append_assoc row.nodes (nodes_behind row.form.nodesize row.slots items row.taken placed) (nodes_of_tree (tree_number t) row.form.nodesize (lengths_of (items t)) (drop end row.slots))
            ∙ ap (λ (ns : List TreeNode). row.nodes ++ ns)
            (ap (λ (ns : List TreeNode). nodes_behind row.form.nodesize row.slots items row.taken placed ++ ns) (sym (append-nil (nodes_of_tree (tree_number t) row.form.nodesize (lengths_of (items t)) (drop end row.slots))))
            ∙ sym (nodes-append row.slots items row.form.nodesize row.taken placed (one ∷ [])))));
      }
