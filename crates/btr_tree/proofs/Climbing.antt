-- From the leaves of a tree up to its root.
use Rattle.btr_tree.proofs.Imports.{MapRange, ◌≡◌, ℕ, zero, suc, ◌+◌, ◌^◌, ◌<◌, ◌≤◌, Bool, List, [], ◌∷◌, ◌++◌, length, map, get_or, refl, sym, ◌∙◌, ap, subst, arith, append_assoc, ⊎_elim, flat_map, sum, div_ceil, pow-suc, cases_lt, append-nil, length_push, first_keys, Item, keys_of, IsNodeSize, Ascends, ascends, Child, IsSubtree, SubtreesAreTrees, may_be_bare, nodes_in, pointer_events, child_pointer, NodePointer, Made, StandBy, pointer_to, fan_out, level_sizes, IsWhole, AreRoots, IsExtended, HasSubtreeRoots, IsRaised, IsRoot, HasNodes, HasWholeNodes, AreFirst, nodes_below, pointers_to, level_pointers, IsPermutation, IsPermutation-refl, IsPermutation-trans, IsPermutation-append_right, IsPermutation-append_comm, sum_by_push, Image}
use Rattle.std.specs.List.{All}
use Rattle.btr_tree.proofs.Meeting.{below_one, levels_more}
use Rattle.btr_tree.proofs.KeyOrder.{heads_ascend}
use Rattle.btr_tree.proofs.RaisingLoop.{extended_none, stand_front}
use Rattle.btr_tree.proofs.Sizes.{IsSmaller, smaller, sum-one, sum-more, sizes-one, sizes-more}

-- the keys of roots ascend where those of all items do
pub roots_ascend : (m : Made) (level : ℕ) (children : List Child) (items : List Item) → HasSubtreeRoots m level children items → Ascends (keys_of items) → Ascends (first_keys children)
roots_ascend m level children items has order =
    ap ascends has.roots.keys ∙ heads_ascend has.lists has.roots.full (ap (λ is. ascends (keys_of is)) has.items_are ∙ order)

pub extended_then : (old mid new : Made) → IsExtended old mid → IsExtended mid new → IsExtended old new
extended_then old mid new first second = record {
  more = first.more ++ second.more;
  draft = second.draft;
  is =
      second.is
      ∙ (ap (λ (x : Made). let y : Made = record x { nodes = x.nodes ++ second.more; draft = second.draft } in y) first.is
      ∙ ap (λ ns. let y : Made = record old { nodes = ns; draft = second.draft } in y) (append_assoc old.nodes first.more second.more));
}

-- While levels are made: the children are of the level that was made last, and the nodes so far are those of the levels
-- up to it.
pub record IsClimbing (old now : Made) (leaves children : List Child) (level : ℕ) : Type 0 where
  pub extended : IsExtended old now
  pub depth : ℕ
  pub deep : depth + level ≡ 255
  pub some : 1 ≤ length children
  pub enough : length children ≤ 2 ^ depth
  pub few : length now.nodes ≤ length now.slots
  pub rest : length now.nodes + sum (level_sizes (suc depth) (fan_out old.form.nodesize) (length children))
      ≡ sum (level_sizes 256 (fan_out old.form.nodesize) (length leaves)) + length children
  pub roots : (items : List Item) → HasSubtreeRoots old 0 leaves items → HasSubtreeRoots now level children items
  -- the sizes of the levels below
  pub sizes : List ℕ
  pub levels : length sizes ≡ level
  pub sum_is : length now.nodes ≡ sum sizes + length children
  pub sizes_are : level_sizes 256 (fan_out old.form.nodesize) (length leaves) ≡ sizes ++ level_sizes (suc depth) (fan_out old.form.nodesize) (length children)
  pub nodes : (items : List Item) → HasSubtreeRoots old 0 leaves items → AreFirst old leaves → (image : Image) (ranges : List MapRange) (bare : Bool) → StandBy image ranges now.form.nodesize now.slots now.nodes
      → IsPermutation (nodes_below image ranges now bare level children) (level_pointers old.generation 0 0 old.slots (sizes ++ length children ∷ []))

pub climbing_begins : (old : Made) (leaves : List Child) → 1 ≤ length leaves → length leaves ≤ 2 ^ 64 → length old.nodes ≡ length leaves → length old.nodes ≤ length old.slots
    → IsClimbing old old leaves leaves 0
climbing_begins old leaves some small made few = record {
  extended = extended_none old;
  depth = 255;
  deep = refl;
  some = some;
  enough = omega arith;
  few = few;
  rest = omega arith;
  roots = λ items has. has;
  sizes = [];
  levels = refl;
  sum_is = omega (arith, made);
  sizes_are = refl;
  nodes = λ items has first image ranges bare stand.
      subst (λ ps. IsPermutation ps (level_pointers old.generation 0 0 old.slots (length leaves ∷ [])))
      (append-nil (pointers_to old.generation 0 0 (length leaves) old.slots) ∙ sym (first image ranges bare stand)) (IsPermutation-refl (level_pointers old.generation 0 0 old.slots (length leaves ∷ [])));
}

zeroth : (k : ℕ) → k ≡ 0 + k
zeroth k = omega arith

sum_push : (xs : List ℕ) (n : ℕ) → sum (xs ++ n ∷ []) ≡ sum xs + n
sum_push xs n = sum_by_push (λ x. x) xs n

stand_old : (image : Image) (ranges : List MapRange) (old new : Made) → IsExtended old new → StandBy image ranges new.form.nodesize new.slots new.nodes → StandBy image ranges old.form.nodesize old.slots old.nodes
stand_old image ranges old new ext stand =
    stand_front image ranges old.form.nodesize old.slots old.nodes ext.more (subst (λ (x : Made). StandBy image ranges x.form.nodesize x.slots x.nodes) ext.is stand)

met_more : {X : Type 0} (all own below old new : List X) → IsPermutation all (own ++ below) → IsPermutation below old → new ≡ old ++ own → IsPermutation all new
met_more all own below old new upper lower is =
    subst (IsPermutation all) (sym is)
    (IsPermutation-trans all (own ++ below) (old ++ own) upper (IsPermutation-trans (own ++ below) (own ++ old) (old ++ own) (IsPermutation-append_right own below old lower) (IsPermutation-append_comm own old)))

pub climbing_goes_on : (old now new : Made) (leaves children parents : List Child) (level above : ℕ) → 121 ≤ fan_out old.form.nodesize → IsClimbing old now leaves children level
    → 1 < length children → above ≡ suc level → IsRaised now children above new parents → IsClimbing old new leaves parents above
climbing_goes_on old now new leaves children parents level above wide so_far more at raised = by_depth so_far.depth so_far.deep so_far.enough so_far.rest so_far.sizes_are
  where
    by_depth : (depth : ℕ) → depth + level ≡ 255 → length children ≤ 2 ^ depth
        → length now.nodes + sum (level_sizes (suc depth) (fan_out old.form.nodesize) (length children)) ≡ sum (level_sizes 256 (fan_out old.form.nodesize) (length leaves)) + length children
        → level_sizes 256 (fan_out old.form.nodesize) (length leaves) ≡ so_far.sizes ++ level_sizes (suc depth) (fan_out old.form.nodesize) (length children)
        → IsClimbing old new leaves parents above
    by_depth zero deep enough rest sizes = absurd (omega arith)
    by_depth (suc depth) deep enough rest sizes =
        let fan : ℕ = fan_out old.form.nodesize in
        let n : ℕ = length children in
        let form : fan_out now.form.nodesize ≡ fan = ap (λ (x : Made). fan_out x.form.nodesize) so_far.extended.is in
        let count : length parents ≡ div_ceil n fan = raised.count ∙ ap (div_ceil n) form in
        let less : IsSmaller n (div_ceil n fan) = smaller n fan wide (omega arith) in
        let sums : sum (level_sizes (suc (suc depth)) fan n) ≡ n + sum (level_sizes (suc depth) fan (length parents)) =
        sum-more (suc depth) fan n more ∙ ap (λ (k : ℕ). n + sum (level_sizes (suc depth) fan k)) (sym count) in
        record {
          extended = extended_then old now new so_far.extended raised.extended;
          depth = depth;
          deep = omega arith;
          some = omega (arith, count, less.some);
          enough = omega (arith, count, less.few, pow-suc 2 depth);
          few = raised.few;
          rest = omega (arith, raised.made, sums, rest);
          roots = λ items has. raised.roots level items at (so_far.roots items has);
          sizes = so_far.sizes ++ n ∷ [];
          levels = length_push so_far.sizes n ∙ omega (arith, so_far.levels, at);
          sum_is = omega (arith, raised.made, so_far.sum_is, sum_push so_far.sizes n);
          sizes_are =
              sizes
              ∙ (ap (λ ss. so_far.sizes ++ ss) (sizes-more (suc depth) fan n more ∙ ap (λ (k : ℕ). n ∷ level_sizes (suc depth) fan k) (sym count))
              ∙ sym (append_assoc so_far.sizes (n ∷ []) (level_sizes (suc depth) fan (length parents))));
          nodes = λ items has first image ranges bare stand.
              let stand_now : StandBy image ranges now.form.nodesize now.slots now.nodes = stand_old image ranges now new raised.extended stand in
              let lower : IsPermutation (nodes_below image ranges now bare level children) (level_pointers old.generation 0 0 old.slots (so_far.sizes ++ n ∷ [])) = so_far.nodes items has first image ranges bare stand_now in
              let same : nodes_below image ranges now bare level children ≡ nodes_below image ranges new bare level children = ap (λ (x : Made). nodes_below image ranges x bare level children) (sym (ap (λ (x : Made). let y : Made = record now { form = x.form; owner = x.owner } in y) raised.extended.is)) in
              let upper = raised.nodes level items at (so_far.roots items has) image ranges bare stand in
              let skip : length now.nodes ≡ sum (so_far.sizes ++ n ∷ []) = omega (arith, so_far.sum_is, sum_push so_far.sizes n) in
              let at_level : above ≡ length (so_far.sizes ++ n ∷ []) = omega (arith, so_far.levels, at, length_push so_far.sizes n) in
              let own : map (child_pointer above) parents ≡ pointers_to old.generation (0 + length (so_far.sizes ++ n ∷ [])) (0 + sum (so_far.sizes ++ n ∷ [])) (length parents) old.slots =
              raised.pointers
              ∙ (ap (λ (x : Made). pointers_to x.generation above (length now.nodes) (length parents) x.slots) so_far.extended.is
              ∙ (ap (λ (k : ℕ). pointers_to old.generation above k (length parents) old.slots) (skip ∙ zeroth (sum (so_far.sizes ++ n ∷ [])))
              ∙ ap (λ (l : ℕ). pointers_to old.generation l (0 + sum (so_far.sizes ++ n ∷ [])) (length parents) old.slots) (at_level ∙ zeroth (length (so_far.sizes ++ n ∷ []))))) in
              met_more (nodes_below image ranges new bare above parents) (map (child_pointer above) parents) (nodes_below image ranges new bare level children) (level_pointers old.generation 0 0 old.slots (so_far.sizes ++ n ∷ []))
              (level_pointers old.generation 0 0 old.slots ((so_far.sizes ++ n ∷ []) ++ length parents ∷ [])) upper
              (subst (λ ps. IsPermutation ps (level_pointers old.generation 0 0 old.slots (so_far.sizes ++ n ∷ []))) same lower)
              (levels_more old.generation 0 0 old.slots (so_far.sizes ++ n ∷ []) (length parents) ∙ ap (λ ps. level_pointers old.generation 0 0 old.slots (so_far.sizes ++ n ∷ []) ++ ps) (sym own));
        }

-- where the next level finds too few slots, so does the tree
pub climbing_short : (old now : Made) (leaves children : List Child) (level : ℕ) → 121 ≤ fan_out old.form.nodesize → IsClimbing old now leaves children level → 1 < length children
    → length now.slots < length now.nodes + div_ceil (length children) (fan_out now.form.nodesize)
    → length old.slots < sum (level_sizes 256 (fan_out old.form.nodesize) (length leaves))
climbing_short old now leaves children level wide so_far more short = by_depth so_far.depth so_far.enough so_far.rest
  where
    by_depth : (depth : ℕ) → length children ≤ 2 ^ depth
        → length now.nodes + sum (level_sizes (suc depth) (fan_out old.form.nodesize) (length children)) ≡ sum (level_sizes 256 (fan_out old.form.nodesize) (length leaves)) + length children
        → length old.slots < sum (level_sizes 256 (fan_out old.form.nodesize) (length leaves))
    by_depth zero enough rest = absurd (omega arith)
    by_depth (suc depth) enough rest =
        let fan : ℕ = fan_out old.form.nodesize in
        let n : ℕ = length children in
        let d : ℕ = div_ceil n fan in
        let same : div_ceil n (fan_out now.form.nodesize) ≡ d = ap (λ (x : Made). div_ceil n (fan_out x.form.nodesize)) so_far.extended.is in
        let slots : length now.slots ≡ length old.slots = ap (λ (x : Made). length x.slots) so_far.extended.is in
        let some : d ≤ sum (level_sizes (suc depth) fan d) =
        ⊎_elim (λ (many : 1 < d). omega (arith, sum-more depth fan d many)) (λ (one : d ≤ 1). omega (arith, sum-one depth fan d one)) (cases_lt 1 d) in
        omega (arith, short, same, slots, some, sum-more (suc depth) fan n more, rest)

pub climbing_count : (old now : Made) (leaves children : List Child) (level : ℕ) → IsClimbing old now leaves children level → length children ≤ 1
    → length now.nodes ≡ sum (level_sizes 256 (fan_out old.form.nodesize) (length leaves))
climbing_count old now leaves children level so_far one = omega (arith, so_far.rest, sum-one so_far.depth (fan_out old.form.nodesize) (length children) one, so_far.some)

-- one root meets the nodes of all levels
pub climbing_nodes : (old now : Made) (leaves children : List Child) (level : ℕ) (items : List Item) (d : Child) → IsClimbing old now leaves children level → length children ≡ 1 → HasSubtreeRoots old 0 leaves items → AreFirst old leaves
    → HasNodes now (get_or children 0 d).address level (level_sizes 256 (fan_out old.form.nodesize) (length leaves))
climbing_nodes old now leaves children level items d so_far one has first = λ image ranges stand.
    let sizes : level_sizes 256 (fan_out old.form.nodesize) (length leaves) ≡ so_far.sizes ++ length children ∷ [] =
    so_far.sizes_are ∙ ap (λ ss. so_far.sizes ++ ss) (sizes-one so_far.depth (fan_out old.form.nodesize) (length children) (omega (arith, one))) in
    let bare : Bool = may_be_bare (pointer_to now.generation level (get_or children 0 d).address) in
    let met = so_far.nodes items has first image ranges bare stand in
    let same : nodes_below image ranges now bare level children ≡ nodes_in (pointer_events image ranges now.form now.owner bare (pointer_to now.generation level (get_or children 0 d).address)) =
    one_met children (so_far.roots items has) one image ranges bare in
    subst (λ ss. IsPermutation (nodes_in (pointer_events image ranges now.form now.owner bare (pointer_to now.generation level (get_or children 0 d).address))) (level_pointers now.generation 0 0 now.slots ss)) (sym sizes)
    (subst (λ ps. IsPermutation ps (level_pointers now.generation 0 0 now.slots (so_far.sizes ++ length children ∷ []))) same
    (subst (λ (x : Made). IsPermutation (nodes_below image ranges now bare level children) (level_pointers x.generation 0 0 x.slots (so_far.sizes ++ length children ∷ [])))
    (sym (ap (λ (x : Made). let y : Made = record old { generation = x.generation; slots = x.slots } in y) so_far.extended.is)) met))
  where
    one_met : (children : List Child) → HasSubtreeRoots now level children items → length children ≡ 1 → (image : Image) (ranges : List MapRange) (bare : Bool)
        → nodes_below image ranges now bare level children ≡ nodes_in (pointer_events image ranges now.form now.owner bare (pointer_to now.generation level (get_or children 0 d).address))
    one_met [] has one image ranges bare = absurd (omega arith)
    one_met (c ∷ (e ∷ children)) has one image ranges bare = absurd (omega arith)
    one_met (c ∷ []) has one image ranges bare =
        let is : child_pointer level c ≡ pointer_to now.generation level c.address =
        ap (λ (g : ℕ). let p : NodePointer = record { address = c.address; level = level; generation = g } in p) (has.roots.one_generation 0 c (omega arith)) in
        below_one image ranges now bare level c ∙ ap (λ (p : NodePointer). nodes_in (pointer_events image ranges now.form now.owner bare p)) is

-- and they are whole
pub whole_of : (m : Made) (level : ℕ) (children : List Child) (items : List Item) (d : Child) → length children ≡ 1 → HasSubtreeRoots m level children items → HasWholeNodes m (get_or children 0 d).address level
whole_of m level [] items d one has = absurd (omega arith)
whole_of m level (c ∷ (e ∷ children)) items d one has = absurd (omega arith)
whole_of m level (c ∷ []) items d one has = λ image ranges stand.
    let root : NodePointer = pointer_to m.generation level c.address in
    let bare : Bool = may_be_bare root in
    let same : child_pointer level c ≡ root = ap (λ (g : ℕ). let p : NodePointer = record { address = c.address; level = level; generation = g } in p) (has.roots.one_generation 0 c (omega arith)) in
    subst (All (IsWhole image ranges m.form m.owner m.chunk_tree)) (below_one image ranges m bare level c ∙ ap (λ (p : NodePointer). nodes_in (pointer_events image ranges m.form m.owner bare p)) same)
    (has.roots.whole image ranges bare stand).nodes

-- one root is the root of the tree
pub root_of : (law : SubtreesAreTrees) (m : Made) (level : ℕ) (children : List Child) (items : List Item) (d : Child) → length children ≡ 1 → HasSubtreeRoots m level children items → Ascends (keys_of items)
    → IsRoot m (get_or children 0 d).address level items
root_of law m level [] items d one has order = absurd (omega arith)
root_of law m level (c ∷ (e ∷ children)) items d one has order = absurd (omega arith)
root_of law m level (c ∷ []) items d one has order = by_lists has.lists has.roots has.items_are
  where
    by_lists : (lists : List (List Item)) → AreRoots m level (c ∷ []) lists → flat_map (λ is. is) lists ≡ items → IsRoot m c.address level items
    by_lists [] roots are = absurd (omega (arith, ap length roots.keys))
    by_lists (l ∷ (k ∷ lists)) roots are = absurd (omega (arith, ap length roots.keys))
    by_lists (l ∷ []) roots are = λ image ranges stand.
        let root : NodePointer = pointer_to m.generation level c.address in
        let same : child_pointer level c ≡ root = ap (λ (g : ℕ). let p : NodePointer = record { address = c.address; level = level; generation = g } in p) (roots.one_generation 0 c (omega arith)) in
        let below = (roots.subtrees image ranges (may_be_bare root) stand).0 in
        let below' : IsSubtree image ranges m.form m.owner (may_be_bare root) root items =
        subst (λ is. IsSubtree image ranges m.form m.owner (may_be_bare root) root is) (sym (append-nil l) ∙ are)
        (subst (λ (p : NodePointer). IsSubtree image ranges m.form m.owner (may_be_bare root) p l) same below) in
        law image ranges m.form m.owner root items below' order

pub wide_fan : (n : ℕ) → IsNodeSize n → 121 ≤ fan_out n
wide_fan n size =
    ⊎_elim (λ (e : n ≡ 4096). omega arith) (λ rest. ⊎_elim (λ (e : n ≡ 8192). omega arith) (λ rest'. ⊎_elim (λ (e : n ≡ 16384). omega arith) (λ rest''. ⊎_elim (λ (e : n ≡ 32768). omega arith) (λ (e : n ≡ 65536). omega arith) rest'') rest') rest) size
