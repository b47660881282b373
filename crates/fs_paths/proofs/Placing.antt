-- The places of objects, with one more path.
use Rattle.fs_paths.proofs.Imports.{◌≡◌, ℕ, ◌+◌, ◌<◌, Bool, true, false, cond, List, [], ◌∷◌, ◌++◌, length, get_or, count_by, Contains, Option, Some, None, IsSome, IfSome, refl, sym, ap, subst, ◌∙◌, ne_eqb, eq-eqb, arith, position_or_len, sum_by_push, count_by-le-length, get_or-le-sum_by, length_push, position_or_len_push, IndexMap, get, Updates, PathFound, NodeId, FirstPath, same_node, finds, numbered, IsFirstPath, HasFirstPaths, with_one_more}
use Rattle.std.specs.Map.{lookup}
use Rattle.fs_paths.proofs.Nodes.{same_node-true, same_node-self}

module _ (all : List PathFound) (f : PathFound) (node : NodeId) where
  long : length (all ++ f ∷ []) ≡ length all + 1
  long = length_push all f

  counted : (b : Bool) → finds node f ≡ b → count_by (finds node) (all ++ f ∷ []) ≡ count_by (finds node) all + cond b 1 0
  counted b is = sum_by_push (λ g. cond (finds node g) 1 0) all f ∙ ap (λ (c : Bool). count_by (finds node) all + cond c 1 0) is

  -- the first place does not change
  place_stays : position_or_len (finds node) all < length all → position_or_len (finds node) (all ++ f ∷ []) ≡ position_or_len (finds node) all
  place_stays within =
      position_or_len_push (finds node) all f
      ∙ ap (λ (c : Bool). cond c (length all + cond (finds node f) 0 1) (position_or_len (finds node) all)) (ne_eqb (position_or_len (finds node) all) (length all) (λ same. omega arith))

  place_end : (b : Bool) → finds node f ≡ b → position_or_len (finds node) all ≡ length all → position_or_len (finds node) (all ++ f ∷ []) ≡ length all + cond b 0 1
  place_end b is none =
      position_or_len_push (finds node) all f
      ∙ (ap (λ (c : Bool). cond c (length all + cond (finds node f) 0 1) (position_or_len (finds node) all)) (eq-eqb (position_or_len (finds node) all) (length all) none)
      ∙ ap (λ (c : Bool). length all + cond c 0 1) is)

  -- one more path to the object
  place_more : (o : Option FirstPath) → IsFirstPath all node o → finds node f ≡ true → IsFirstPath (all ++ f ∷ []) node (Some (with_one_more o (length all)))
  place_more None is own =
      let place = place_end true own is.0 in
      let count = counted true own in
      (omega (arith, place, long), omega (arith, place), omega (arith, count, is.1))
  place_more (Some place) is own =
      let stays = place_stays is.0 in
      let count = counted true own in
      (omega (arith, stays, long, is.0), is.1 ∙ sym stays, omega (arith, count, is.2))

  -- a path to another one
  place_kept : (o : Option FirstPath) → IsFirstPath all node o → finds node f ≡ false → IsFirstPath (all ++ f ∷ []) node o
  place_kept None is other =
      let place = place_end false other is.0 in
      let count = counted false other in
      (omega (arith, place, long), omega (arith, count, is.1))
  place_kept (Some place) is other =
      let stays = place_stays is.0 in
      let count = counted false other in
      (omega (arith, stays, long, is.0), is.1 ∙ sym stays, omega (arith, count, is.2))

-- the map with one more path
pub placed : {S : Type 0} (old new : IndexMap NodeId FirstPath S) (all : List PathFound) (f : PathFound) (place : FirstPath) → HasFirstPaths old all → Updates same_node old new f.target (Some place)
    → place ≡ with_one_more (get same_node old f.target) (length all) → HasFirstPaths new (all ++ f ∷ [])
placed {S} old new all f place has updates is = record { each = λ node. by node (same_node f.target node) refl }
  where
    by : (node : NodeId) (b : Bool) → same_node f.target node ≡ b → IsFirstPath (all ++ f ∷ []) node (get same_node new node)
    by node true own =
        let same = same_node-true f.target node own in
        let now = updates.0 node ∙ (ap (λ (b : Bool). cond b (Some place) (get same_node old node)) own ∙ ap Some (is ∙ ap (λ (n : NodeId). with_one_more (get same_node old n) (length all)) same)) in
        subst (λ (o : Option FirstPath). IsFirstPath (all ++ f ∷ []) node o) (sym now) (place_more all f node (get same_node old node) (has.each node) own)
    by node false other =
        let now = updates.0 node ∙ ap (λ (b : Bool). cond b (Some place) (get same_node old node)) other in
        subst (λ (o : Option FirstPath). IsFirstPath (all ++ f ∷ []) node o) (sym now) (place_kept all f node (get same_node old node) (has.each node) other)

-- no more paths to it than there are
pub few_names : (all : List PathFound) (node : NodeId) (bound : ℕ) (o : Option FirstPath) → IsFirstPath all node o → length all < bound → IfSome o (λ p. p.names < bound)
few_names all node bound None is less = tt
few_names all node bound (Some place) is less = let few = count_by-le-length (finds node) all in omega (arith, few, is.2, less)

-- an object that a path leads to has its place
pub has_place : {S : Type 0} (places : IndexMap NodeId FirstPath S) (all : List PathFound) (f : PathFound) → HasFirstPaths places all → Contains all f → IsSome (get same_node places f.target)
has_place {S} places all f has among = by (get same_node places f.target) (has.each f.target)
  where
    by : (o : Option FirstPath) → IsFirstPath all f.target o → IsSome o
    by None is =
        let part = get_or-le-sum_by (λ g. cond (finds f.target g) 1 0) all among.0 f among.1 in
        let own : ◌≡◌ {A = ℕ} (cond (finds f.target (get_or all among.0 f)) 1 0) 1 = ap (λ (g : PathFound). cond (finds f.target g) 1 0) among.2 ∙ ap (λ (b : Bool). cond b 1 0) (same_node-self f.target) in
        absurd (omega (arith, part, own, is.1))
    by (Some place) is = refl
