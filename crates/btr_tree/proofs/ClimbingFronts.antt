-- From the leaves of a tree up to its root, where nodes are written on the way.
use Rattle.btr_tree.proofs.Imports.{◌≡◌, ℕ, ◌+◌, ◌^◌, ◌<◌, ◌≤◌, Bool, List, length, get_or, sym, ◌∙◌, subst, arith, sum, div_ceil, Image, first_keys, Ascends, Child, SubtreesAreTrees, Made, Goes, HasBack, taken, with_written, fan_out, tree_levels, IsRaised, IsClimbed, HasForest, IsRoot, HasNodes, HasWholeNodes, Root}
use Rattle.btr_tree.proofs.Climbing.{IsClimbing, roots_ascend, climbing_begins, climbing_goes_on, climbing_short, climbing_count, climbing_nodes, root_of, whole_of}
use Rattle.btr_tree.proofs.RaisingFronts.{blanks, length-blanks, whole_count}

pub climb_begins : (tells : Bool) (image : Image) (old : Made) (leaves : List Child) → 1 ≤ length leaves → length leaves ≤ 2 ^ 64 → taken old ≡ length leaves → taken old ≤ length old.slots
    → Goes tells image image old old (λ m n. IsClimbing m n leaves leaves 0)
climb_begins tells image old leaves some small made few = λ front count. record {
  back = front;
  count = count;
  stands = λ t stand. stand;
  now = climbing_begins (with_written old front) leaves some small (omega (arith, made, whole_count old front count)) (omega (arith, few, whole_count old front count));
}

module _ (tells : Bool) (first second : Image) (old now : Made) (leaves children : List Child) (level : ℕ) (so_far : Goes tells first second old now (λ m n. IsClimbing m n leaves children level)) where
  abbrev start : HasBack tells first second old now (λ m n. IsClimbing m n leaves children level) (blanks old.written)
  start = so_far (blanks old.written) (length-blanks old.written)

  pub climb_some : 1 ≤ length children
  climb_some = start.now.some

  pub climb_order : HasForest old leaves → Ascends (first_keys children)
  climb_order made =
      let h : HasBack tells first second old now (λ m n. IsClimbing m n leaves children level) made.front = so_far made.front made.count in
      roots_ascend (with_written now h.back) level children made.forest.items (h.now.roots made.forest.items made.forest.roots) made.forest.order

  pub climb_goes_on : (third : Image) (new : Made) (parents : List Child) (above : ℕ) → 121 ≤ fan_out old.form.nodesize → 1 < length children → above ≡ level + 1
      → Goes tells second third now new (λ m n. IsRaised m children above n parents) → Goes tells first third old new (λ m n. IsClimbing m n leaves parents above)
  climb_goes_on third new parents above wide more at raised = λ front count.
      let h : HasBack tells first second old now (λ m n. IsClimbing m n leaves children level) front = so_far front count in
      let r : HasBack tells second third now new (λ m n. IsRaised m children above n parents) h.back = raised h.back h.count in
      record {
        back = r.back;
        count = r.count;
        stands = λ t stand. r.stands t (h.stands t stand);
        now = climbing_goes_on (with_written old front) (with_written now h.back) (with_written new r.back) leaves children parents level above wide h.now more (omega (arith, at)) r.now;
      }

  pub climb_short : 121 ≤ fan_out old.form.nodesize → 1 < length children → length now.slots < taken now + div_ceil (length children) (fan_out now.form.nodesize)
      → length old.slots < sum (tree_levels old.form.nodesize (length leaves))
  climb_short wide more short =
      climbing_short (with_written old (blanks old.written)) (with_written now start.back) leaves children level wide start.now more (omega (arith, short, whole_count now start.back start.count))

  pub climb_ends : SubtreesAreTrees → length children ≡ 1 → (root : Root) (d : Child) → root.address ≡ (get_or children 0 d).address → root.level ≡ level → root.nodes ≡ taken now
      → Goes tells first second old now (λ m n. IsClimbed m leaves n root)
  climb_ends law one root d address level_is nodes = λ front count.
      let h : HasBack tells first second old now (λ m n. IsClimbing m n leaves children level) front = so_far front count in
      record {
        back = h.back;
        count = h.count;
        stands = h.stands;
        now = record {
          extended = h.now.extended;
          few = h.now.few;
          count = climbing_count (with_written old front) (with_written now h.back) leaves children level h.now (omega (arith, one));
          nodes_are = nodes ∙ whole_count now h.back h.count;
          root_is = λ items has order.
              subst (λ (a : ℕ). IsRoot (with_written now h.back) a root.level items) (sym address)
              (subst (λ (l : ℕ). IsRoot (with_written now h.back) (get_or children 0 d).address l items) (sym level_is)
              (root_of law (with_written now h.back) level children items d one (h.now.roots items has) order));
          nodes = λ items has starts.
              subst (λ (a : ℕ). HasNodes (with_written now h.back) a root.level (tree_levels old.form.nodesize (length leaves))) (sym address)
              (subst (λ (l : ℕ). HasNodes (with_written now h.back) (get_or children 0 d).address l (tree_levels old.form.nodesize (length leaves))) (sym level_is)
              (climbing_nodes (with_written old front) (with_written now h.back) leaves children level items d h.now one has starts));
          whole = λ items has.
              subst (λ (a : ℕ). HasWholeNodes (with_written now h.back) a root.level) (sym address)
              (subst (λ (l : ℕ). HasWholeNodes (with_written now h.back) (get_or children 0 d).address l) (sym level_is)
              (whole_of (with_written now h.back) level children items d one (h.now.roots items has)));
        };
      }
