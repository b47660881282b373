-- A tree is written whole.
use Rattle.btr_tree.proofs.Imports.{◌≡◌, ℕ, Bool, List, [], ◌++◌, length, IsTrue, sym, ◌∙◌, ap, subst, arith, append-nil, IsPermutation, Image, Item, nodes_in, walk_events, IsNodeSize, MapRange, Made, AreSlots, StandAt, StandBy, Goes, HasBack, pointer_to, taken, with_written, MapsSlots, Building, Standing, Holds, pushed, all_made, HasTree, HasWhole, tree_nodes, packed_leaves as leaves_by, tree_levels, IsCompleted, IsFinished, MeetsNodes, level_pointers, lengths_of, Root}
use Rattle.btr_tree.proofs.Placing.{stand_by}
use Rattle.btr_tree.proofs.Going.{HasFront, goes_then}
use Rattle.btr_tree.proofs.RaisingFronts.{whole_count}

-- the tree of what is held was made
abbrev pub Makes : Building → Building → Root → Made → Made → Type 0
Makes b new root m n = Standing (record b { made = m }) → IsCompleted (record b { made = m }) (record new { made = n }) root

pub makes_goes : (tells : Bool) (first second third last : Image) (b new : Building) (mid final : Made) (root : Root) → Goes tells first second b.made mid (λ m n. n ≡ m)
    → Goes tells second third mid new.made (Makes b new root) → Goes tells third last new.made final (λ m n. n ≡ m) → Goes tells first last b.made final (Makes b new root)
makes_goes tells first second third last b new mid final root room made flush =
    goes_then tells first third last b.made new.made final (Makes b new root) (λ m n. n ≡ m) (Makes b new root) (λ m n o make same. subst (λ (x : Made). Makes b new root m x) (sym same) make)
    (goes_then tells first second third b.made mid new.made (λ m n. n ≡ m) (Makes b new root) (Makes b new root) (λ m n o same make. subst (λ (x : Made). Makes b new root x o) same make) room made) flush

module _ (tells : Bool) (first last : Image) (b new : Building) (final : Made) (root : Root) (goes : Goes tells first last b.made final (Makes b new root)) (none : final.nodes ≡ []) where
  abbrev there : (items : List Item) → (h : Holds b items) → HasBack tells first last b.made final (Makes b new root) h.front
  there items h = goes h.front h.count

  done : (items : List Item) → (h : Holds b items) → IsCompleted (all_made b h.front) (record new { made = with_written final (there items h).back }) root
  done items h = (there items h).now h.standing

  pub finished : (items : List Item) → Holds b items → IsFinished b (record new { made = final }) root items
  finished items h =
      let d : IsCompleted (all_made b h.front) (record new { made = with_written final (there items h).back }) root = done items h in
      let count : taken final ≡ length (with_written final (there items h).back).nodes = whole_count final (there items h).back (there items h).count in
      record {
        same = record {
          form = ap (λ (m : Made). m.form) d.extended.is;
          owner = ap (λ (m : Made). m.owner) d.extended.is;
          generation = ap (λ (m : Made). m.generation) d.extended.is;
          slots = ap (λ (m : Made). m.slots) d.extended.is;
          offsets = ap (λ (m : Made). m.offsets) d.extended.is;
          chunk_tree = ap (λ (m : Made). m.chunk_tree) d.extended.is;
        };
        few = omega (arith, count, d.few);
        count = count ∙ (d.count ∙ ap (λ is. tree_nodes b.made.form.nodesize (lengths_of is)) h.pushed_is);
        nodes_are = d.nodes_are ∙ sym count;
        all_written = none;
      }

  -- all nodes stand on the disk
  all_stand : IsTrue tells → (items : List Item) → (f : HasFront b first items) → StandAt last final.form.nodesize final.offsets ((there items f.holds).back ++ final.nodes)
  all_stand told items f =
      subst (StandAt last final.form.nodesize final.offsets) (sym (ap (λ ns. (there items f.holds).back ++ ns) none ∙ append-nil (there items f.holds).back)) ((there items f.holds).stands told f.stand)

  module _ (ranges : List MapRange) (maps : MapsSlots ranges b.made.form.nodesize b.made.slots b.made.offsets) (told : IsTrue tells) (items : List Item) (f : HasFront b first items) where
    d : IsCompleted (all_made b f.holds.front) (record new { made = with_written final (there items f.holds).back }) root
    d = done items f.holds

    -- by the map too
    by_map : StandBy last ranges final.form.nodesize final.slots ((there items f.holds).back ++ final.nodes)
    by_map =
        stand_by last ranges final.form.nodesize final.slots final.offsets ((there items f.holds).back ++ final.nodes)
        (subst (λ (m : Made). IsNodeSize m.form.nodesize) (sym d.extended.is) f.holds.standing.nodesize)
        (subst (λ (m : Made). AreSlots m.form.nodesize m.offsets) (sym d.extended.is) f.holds.standing.slots)
        (subst (λ (m : Made). MapsSlots ranges m.form.nodesize m.slots m.offsets) (sym d.extended.is) maps) d.few (all_stand told items f)

    pub finished_tree : HasTree last ranges b.made root.address root.level items
    finished_tree =
        subst (λ is. HasTree last ranges b.made root.address root.level is) f.holds.pushed_is
        (subst (λ (m : Made). HasTree last ranges m root.address root.level (pushed (all_made b f.holds.front))) d.extended.is (d.root_is last ranges by_map))

    pub finished_nodes : MeetsNodes last ranges b.made root.address root.level items
    finished_nodes =
        let sizes : List ℕ = tree_levels b.made.form.nodesize (length (leaves_by b.made.form.nodesize (lengths_of (pushed (all_made b f.holds.front))))) in
        subst (λ is. MeetsNodes last ranges b.made root.address root.level is) f.holds.pushed_is
        (subst (λ (m : Made). IsPermutation (nodes_in (walk_events last ranges m.form (pointer_to m.generation root.level root.address) m.owner)) (level_pointers m.generation 0 0 m.slots sizes)) d.extended.is
        (d.nodes last ranges by_map))

    pub finished_whole : HasWhole last ranges b.made root.address root.level
    finished_whole = subst (λ (m : Made). HasWhole last ranges m root.address root.level) d.extended.is (d.whole last ranges by_map)
