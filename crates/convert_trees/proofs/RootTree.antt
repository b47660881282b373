-- The root tree at the slots that were kept for it, and the extent tree behind it.
use Rattle.convert_trees.proofs.Imports.{◌≡◌, ◌∙◌, ℕ, ◌+◌, ◌-◌, ◌*◌, ◌≤◌, ◌++◌, List, length, take, drop, refl, sym, ap, subst, arith, map, length-drop, length-take, EXTENT_TREE, ROOT_TREE, History, reads, WritesOnly, Item, IsNodeSize, node_bound, tree_nodes, lengths_of, IsInSlots, Root, no_trees, no_root, placed_trees, told_roots, extent_items, merged_nodes, nodes_of_tree, AreIds, extent_bytes, own_bound, root_items, TreeNode, root_items_fit, bound_up, roomy, IsSlotRow, AreWritable, TreeStands, read_form, NodeForm, Trees, PlannedChunk, Piece, AddsExtents, AddsLast, root_count, slots_needed, WrittenExtents, NewRoots, PlacedTree, new_trees, ascends}
use Rattle.convert_trees.proofs.Few.{few_merged, row_few}
use Rattle.convert_trees.proofs.Front.{stands_behind}
use Rattle.convert_trees.proofs.Rooted.{root_lengths}

-- the root tree has as many nodes wherever the trees begin
pub count_of : (form : NodeForm) (index now : ℕ) (placed : List PlacedTree) (extents : Root) → map (λ p. p.tree) placed ≡ new_trees
    → tree_nodes form.nodesize (lengths_of (root_items (told_roots placed extents) index form.ids now form.nodesize)) ≡ root_count form index now
count_of form index now placed extents are =
    ap (λ (ls : List ℕ). tree_nodes form.nodesize ls) (root_lengths index form.ids now form.nodesize placed (placed_trees no_trees) extents no_root are refl)

-- it can be written to as many slots
pub root_writable : (form : NodeForm) (index now : ℕ) (placed : List PlacedTree) (extents : Root) (slots : List ℕ) → map (λ p. p.tree) placed ≡ new_trees → IsNodeSize form.nodesize → AreIds form.ids
    → tree_nodes form.nodesize (lengths_of (root_items (told_roots placed extents) index form.ids now form.nodesize)) ≤ length slots
    → AreWritable form.nodesize slots (root_items (told_roots placed extents) index form.ids now form.nodesize)
root_writable form index now placed extents slots are size ids few =
    let fit = root_items_fit (told_roots placed extents) index form.ids now form.nodesize ids (ascends placed extents are) in
    record { order = fit.ascend; short = λ i d h. omega (arith, fit.short i d h, roomy form.nodesize size); few = few }

pub count_needed : (row : Trees) (form : NodeForm) (index saved now : ℕ) (placed : List PlacedTree) (extents : Root) → map (λ p. p.tree) placed ≡ new_trees → row.form ≡ form → index ≡ saved
    → tree_nodes form.nodesize (lengths_of (root_items (told_roots placed extents) index form.ids now form.nodesize)) ≡ root_count row.form saved now
count_needed row form index saved now placed extents trees same is =
    count_of form index now placed extents trees ∙ (ap (λ (f : NodeForm). root_count f index now) (sym same) ∙ ap (λ (i : ℕ). root_count row.form i now) is)

-- so many slots were kept
pub kept_long : (row : Trees) (m : ℕ) (slots : List ℕ) → slots ≡ take m (drop row.taken row.slots) → row.taken + m ≤ length row.slots → length slots ≡ m
kept_long row m slots are few = omega (arith, ap (λ (s : List ℕ). length s) are, length-take m (drop row.taken row.slots), length-drop row.taken row.slots, few)

fits_left : (low high taken count total all later : ℕ) → low ≤ high → taken + count + (2 * high + 16) ≤ total → all ≡ total → later ≡ taken + count → 2 * low + 16 ≤ all - later
fits_left low high taken count total all later up enough same is = omega (arith, up, enough, same, is)

-- there are slots for the bound of the extent tree's nodes behind those that were kept
room_behind : (n count : ℕ) (row mid : Trees) (chunks : List PlannedChunk) (pieces : List Piece) (others : List TreeNode) → IsNodeSize n → IsSlotRow mid → mid.slots ≡ row.slots → mid.taken ≡ row.taken + count
    → slots_needed n row.taken count (length pieces) (length chunks) (length others) ≤ length row.slots
    → own_bound chunks pieces (merged_nodes mid.nodes others) n ≤ length mid.slots - mid.taken
room_behind n count row mid chunks pieces others size is same more enough =
    let all : List TreeNode = merged_nodes mid.nodes others in
    let few : length all ≤ row.taken + count + length others = omega (arith, few_merged all mid.nodes others refl, row_few mid is, more) in
    let low : ℕ = extent_bytes (length pieces) (length chunks) (length all) in
    let high : ℕ = extent_bytes (length pieces) (length chunks) (row.taken + count + length others) in
    fits_left (node_bound low n) (node_bound high n) row.taken count (length row.slots) (length mid.slots) mid.taken (bound_up low high n size (omega (arith, few))) enough (ap (λ (s : List ℕ). length s) same) more

pub room_left : (row mid : Trees) (form : NodeForm) (index saved now : ℕ) (placed : List PlacedTree) (extents : Root) (slots : List ℕ) (chunks : List PlannedChunk) (pieces : List Piece) (others : List TreeNode)
    → map (λ p. p.tree) placed ≡ new_trees → row.form ≡ form → index ≡ saved → IsSlotRow row → IsSlotRow mid → mid.slots ≡ row.slots → mid.taken ≡ row.taken + length slots
    → slots ≡ take (tree_nodes form.nodesize (lengths_of (root_items (told_roots placed extents) index form.ids now form.nodesize))) (drop row.taken row.slots)
    → slots_needed row.form.nodesize row.taken (root_count row.form saved now) (length pieces) (length chunks) (length others) ≤ length row.slots
    → own_bound chunks pieces (merged_nodes mid.nodes others) form.nodesize ≤ length mid.slots - mid.taken
room_left row mid form index saved now placed extents slots chunks pieces others trees same is row-is mid-is at taken are enough =
    let m : ℕ = tree_nodes form.nodesize (lengths_of (root_items (told_roots placed extents) index form.ids now form.nodesize)) in
    let count : m ≡ root_count row.form saved now = count_needed row form index saved now placed extents trees same is in
    let long : length slots ≡ m = kept_long row m slots are (omega (arith, count, enough)) in
    subst (λ (f : NodeForm). own_bound chunks pieces (merged_nodes mid.nodes others) f.nodesize ≤ length mid.slots - mid.taken) same
    (room_behind row.form.nodesize (root_count row.form saved now) row mid chunks pieces others row-is.size mid-is at (omega (arith, taken, long, count)) enough)

-- the row behind the kept slots
abbrev behind : Trees → List TreeNode → ℕ → Trees
behind row nodes count = record { form = row.form; slots = row.slots; taken = row.taken + count; nodes = nodes }

same_row : (mid row : Trees) (nodes : List TreeNode) (count : ℕ) → mid.form ≡ row.form → mid.slots ≡ row.slots → mid.taken ≡ row.taken + count → mid.nodes ≡ nodes → mid ≡ behind row nodes count
same_row mid row nodes count forms slots taken are =
    ap (λ (f : NodeForm). let t : Trees = record { form = f; slots = mid.slots; taken = mid.taken; nodes = mid.nodes } in t) forms
    ∙ (ap (λ (s : List ℕ). let t : Trees = record { form = row.form; slots = s; taken = mid.taken; nodes = mid.nodes } in t) slots
    ∙ (ap (λ (n : ℕ). let t : Trees = record { form = row.form; slots = row.slots; taken = n; nodes = mid.nodes } in t) taken
    ∙ ap (λ (ns : List TreeNode). let t : Trees = record { form = row.form; slots = row.slots; taken = row.taken + count; nodes = ns } in t) are))

-- what the superblock is told, where these were written last
abbrev pub told_with : Root → WrittenExtents → Root → NewRoots
told_with chunk x root = record { chunk = chunk; root = root; used = x.used }

module _ (old new : History) (row mid later : Trees) (slots : List ℕ) (index now : ℕ) (chunks : List PlannedChunk) (pieces : List Piece) (others : List TreeNode) (chunk : Root) (placed : List PlacedTree) (x : WrittenExtents) (root : Root) where
  abbrev items : NodeForm → List Item
  items form = root_items (told_roots placed x.root) index form.ids now form.nodesize

  both_stand : IsSlotRow row → mid.form ≡ row.form → mid.slots ≡ row.slots → mid.taken ≡ row.taken + root.nodes
      → mid.nodes ≡ row.nodes ++ nodes_of_tree ROOT_TREE row.form.nodesize (lengths_of (items row.form)) (drop row.taken row.slots)
      → WritesOnly (λ b _. IsInSlots row.form.nodesize (take root.nodes (drop row.taken row.slots)) b) old new
      → AddsExtents (reads old) mid later chunks pieces others x
      → TreeStands (reads new) (read_form row.form) ROOT_TREE (take root.nodes (drop row.taken row.slots)) (items row.form) root
      → AddsLast (reads new) row index now chunks pieces others placed (told_with chunk x root)
  both_stand is forms at taken nodes only adds stands =
      let ns : List TreeNode = row.nodes ++ nodes_of_tree ROOT_TREE row.form.nodesize (lengths_of (items row.form)) (drop row.taken row.slots) in
      let known : AddsExtents (reads old) (behind row ns root.nodes) later chunks pieces others x =
      subst (λ (t : Trees). AddsExtents (reads old) t later chunks pieces others x) (same_row mid row ns root.nodes forms at taken nodes) adds in
      record {
        nodes = known.nodes;
        extents_at = x.root;
        root = stands;
        extents =
            stands_behind old new (read_form row.form) EXTENT_TREE root.nodes row.taken row.slots (extent_items chunks pieces known.nodes row.form.nodesize) x.root is.size is.slots only known.adds.stands;
        are_all = known.are_all;
        used = known.used;
      }

  -- by what was called with
  abbrev Stand : NodeForm → Type 0
  Stand form =
      mid.nodes ≡ row.nodes ++ nodes_of_tree ROOT_TREE form.nodesize (lengths_of (items form)) (drop row.taken row.slots)
      → slots ≡ take (tree_nodes form.nodesize (lengths_of (items form))) (drop row.taken row.slots)
      → WritesOnly (λ b _. IsInSlots form.nodesize slots b) old new
      → TreeStands (reads new) (read_form form) ROOT_TREE slots (items form) root
      → AddsLast (reads new) row index now chunks pieces others placed (told_with chunk x root)

  stand : IsSlotRow row → mid.form ≡ row.form → mid.slots ≡ row.slots → mid.taken ≡ row.taken + length slots → AddsExtents (reads old) mid later chunks pieces others x
      → tree_nodes row.form.nodesize (lengths_of (items row.form)) ≤ length row.slots - row.taken → Stand row.form
  stand is forms at taken adds few nodes are only stands =
      let count : tree_nodes row.form.nodesize (lengths_of (items row.form)) ≡ root.nodes = sym stands.count in
      let kept : slots ≡ take root.nodes (drop row.taken row.slots) = are ∙ ap (λ (k : ℕ). take k (drop row.taken row.slots)) count in
      let long : length slots ≡ root.nodes = omega (arith, ap (λ (s : List ℕ). length s) kept, length-take root.nodes (drop row.taken row.slots), length-drop row.taken row.slots, few, count) in
      both_stand is forms at (taken ∙ ap (λ (k : ℕ). row.taken + k) long) nodes
      (subst (λ (s : List ℕ). WritesOnly (λ b _. IsInSlots row.form.nodesize s b) old new) kept only) adds
      (subst (λ (s : List ℕ). TreeStands (reads new) (read_form row.form) ROOT_TREE s (items row.form) root) kept stands)

  pub last_stand : (form : NodeForm) → row.form ≡ form → IsSlotRow row → mid.form ≡ row.form → mid.slots ≡ row.slots → mid.taken ≡ row.taken + length slots → AddsExtents (reads old) mid later chunks pieces others x
      → tree_nodes row.form.nodesize (lengths_of (items row.form)) ≤ length row.slots - row.taken → Stand form
  last_stand form same is forms at taken adds few = subst Stand same (stand is forms at taken adds few)
