-- The slots of a plan's units touch no used block and no piece.
use Rattle.convert_trees.proofs.Imports.{◌≡◌, ◌≢◌, ◌∙◌, ℕ, ◌+◌, ◌*◌, ◌/◌, ◌^◌, ◌<◌, ◌≤◌, ◌⊎◌, ◌++◌, ⊎_elim, Bool, true, false, List, [], ◌∷◌, take, drop, Option, Some, None, refl, sym, ap, subst, arith, true≢false, take-append-drop, Contains, range_with_len, Contains-append_cases, Contains-append_left, Contains-append_right, Image, IsNodeSize, IsInNode, IsInSlots, HasPlan, HoldsUsed, LiesInUnit, all_at, has, IsFreeUnit, contains_cases, contains_head, contains_tail, range_contains, used_of, LieApart, AreUnitsApart, node_places, places_in, Options, Piece, Plan, IsInPieces, cases_eq}
use Rattle.std.proofs.lemmas.List.Sorted.{Contains-permutation, IsPermutation-sym}
use Rattle.reiser_volume.proofs.fs_paths.Lists.{from_flat_map, from_map}
use Rattle.convert_steps.specs.extent_pieces.Files.{owner, tails}
use Rattle.convert_steps.specs.extent_pieces.Found.{files_of}
use Rattle.convert_steps.specs.extent_pieces.Pieces.{Owners, pieces as all_pieces}
use Rattle.convert_steps.specs.extent_pieces.Placed.{WerePlaced, at_place, at_places, blocks_of_units}
use Rattle.convert_steps.specs.extent_pieces.declared.pieces.Pieces.{Pieces}
use Rattle.convert_steps.proofs.extent_pieces.Covering.{pieces_cover_used}
use Rattle.unit_plan.specs.Needed.{nodes_in_unit}
use Rattle.unit_plan.proofs.Starts.{among_contains}

-- a block of a node that lies in a unit
in_unit : (nodesize u k b : ℕ) → IsNodeSize nodesize → k < nodes_in_unit nodesize → IsInNode nodesize (2 ^ 20 * u + nodesize * k) b → u ≡ b / 256
in_unit nodesize u k b size few inside =
    ⊎_elim (λ (e : nodesize ≡ 4096). at 4096 e (λ few inside. omega (arith, few, inside.0, inside.1)))
    (λ rest. ⊎_elim (λ (e : nodesize ≡ 8192). at 8192 e (λ few inside. omega (arith, few, inside.0, inside.1)))
    (λ rest'. ⊎_elim (λ (e : nodesize ≡ 16384). at 16384 e (λ few inside. omega (arith, few, inside.0, inside.1)))
    (λ rest''. ⊎_elim (λ (e : nodesize ≡ 32768). at 32768 e (λ few inside. omega (arith, few, inside.0, inside.1)))
    (λ (e : nodesize ≡ 65536). at 65536 e (λ few inside. omega (arith, few, inside.0, inside.1))) rest'') rest') rest) size
  where
    at : (n : ℕ) → nodesize ≡ n → (k < nodes_in_unit n → IsInNode n (2 ^ 20 * u + n * k) b → u ≡ b / 256) → u ≡ b / 256
    at n e turn = turn (subst (λ (j : ℕ). k < nodes_in_unit j) e few) (subst (λ (j : ℕ). IsInNode j (2 ^ 20 * u + j * k) b) e inside)

-- a block of the slots of units lies in one of the units
pub in_units : (nodesize : ℕ) (units : List ℕ) (b : ℕ) → IsNodeSize nodesize → IsInSlots nodesize (node_places nodesize units) b → Contains units (b / 256)
unfolding node_places
in_units nodesize units b size found =
    let unit = from_flat_map (places_in nodesize) units found.1 (found.0, found.2, found.3) in
    let node = from_map (λ k. 2 ^ 20 * unit.0 + nodesize * k) (range_with_len 0 (nodes_in_unit nodesize)) found.1 unit.2 in
    let few = range_contains 0 (nodes_in_unit nodesize) node.0 node.1 in
    let inside : IsInNode nodesize (2 ^ 20 * unit.0 + nodesize * node.0) b = subst (λ (a : ℕ). IsInNode nodesize a b) (sym node.2) found.4 in
    subst (λ (u : ℕ). Contains units u) (in_unit nodesize unit.0 node.0 b size (omega (arith, few.1)) inside) unit.1

-- the slots of units that are apart share no block
pub units_apart : (nodesize : ℕ) (units others : List ℕ) (b : ℕ) → IsNodeSize nodesize → AreUnitsApart units others → IsInSlots nodesize (node_places nodesize units) b → IsInSlots nodesize (node_places nodesize others) b → ⊥
units_apart nodesize units others b size apart one other = apart (b / 256) (in_units nodesize units b size one) (in_units nodesize others b size other)

-- a block of a free unit is unused
pub units_unused : (used : List Bool) (nodesize : ℕ) (units : List ℕ) → IsNodeSize nodesize → ((u : ℕ) → Contains units u → IsFreeUnit used u) → LieApart (λ b. has used b ≡ true) nodesize (node_places nodesize units)
units_unused used nodesize units size free b marked inside =
    true≢false (sym marked ∙ (free (b / 256) (in_units nodesize units b size inside)).unused b refl)

-- a piece that stays holds used blocks, another one lies in a data unit
pub pieces_apart : (used : List Bool) (nodesize : ℕ) (units data_ : List ℕ) (pieces : List Piece) → IsNodeSize nodesize → ((u : ℕ) → Contains units u → IsFreeUnit used u) → AreUnitsApart units data_
    → ((p : Piece) → Contains pieces p → LiesInUnit data_ p) → ((p : Piece) (b : ℕ) → Contains pieces p → p.from ≡ Some p.place → p.place ≤ b → b < p.place + p.count → has used b ≡ true)
    → LieApart (IsInPieces pieces) nodesize (node_places nodesize units)
pieces_apart used nodesize units data_ pieces size free apart moved kept b within inside =
    by p.from refl
  where
    p : Piece
    p = within.0

    goes : p.from ≢ Some p.place → ⊥
    goes other =
        let one = moved p within.1 other in
        let same : p.place ≡ b = omega (arith, one.0, within.2, within.3) in
        apart (b / 256) (in_units nodesize units b size inside) (subst (λ (c : ℕ). Contains data_ (c / 256)) same (among_contains data_ (p.place / 256) one.1))

    stays : p.from ≡ Some p.place → ⊥
    stays is = units_unused used nodesize units size free b (kept p b within.1 is within.2 within.3) inside

    by : (from : Option ℕ) → p.from ≡ from → ⊥
    by None is = goes (λ same. none_is (sym is ∙ same))
      where
        none_is : None ≡ Some p.place → ⊥
        none_is e = absurd cc
    by (Some a) is =
        ⊎_elim (λ (same : a ≡ p.place). stays (is ∙ ap (λ (x : ℕ). let o : Option ℕ = Some x in o) same))
        (λ (other : a ≢ p.place). goes (λ (same : p.from ≡ Some p.place). let both : Some a ≡ Some p.place = sym is ∙ same in other cc))
        (cases_eq a p.place)

-- ---- pieces that stay

-- a piece as it was before it got its place
record WasOne (old : List Piece) (p : Piece) : Type 0 where
  was : Piece
  among : Contains old was
  from : was.from ≡ p.from
  count : was.count ≡ p.count

placed_one : (old : List Piece) (places : List ℕ) (p : Piece) → Contains (at_places old places) p → WasOne old p
placed_one [] places p h = absurd (omega (arith, h.1))
placed_one (q ∷ old) [] p h = absurd (omega (arith, h.1))
placed_one (q ∷ old) (b ∷ bs) p h =
    ⊎_elim
    (λ (same : at_place q b ≡ p). record { was = q; among = contains_head q old; from = ap (λ (r : Piece). r.from) same; count = ap (λ (r : Piece). r.count) same })
    (λ (later : Contains (at_places old bs) p). let of = placed_one old bs p later in record { was = of.was; among = contains_tail of.was q old of.among; from = of.from; count = of.count })
    (contains_cases p (at_place q b) (at_places old bs) h)

was_one : (kept : ℕ) (units : List ℕ) (old placed : List Piece) (p : Piece) → WerePlaced kept units old placed → Contains placed p → WasOne old p
was_one kept units old placed p are among =
    let split : take kept old ++ drop kept old ≡ old = take-append-drop kept old in
    ⊎_elim
    (λ (first : Contains (take kept old) p). record { was = p; among = subst (λ (xs : List Piece). Contains xs p) split (Contains-append_left (take kept old) (drop kept old) p first); from = refl; count = refl })
    (λ (second : Contains (at_places (drop kept old) (blocks_of_units units)) p).
    let of = placed_one (drop kept old) (blocks_of_units units) p second in
    record { was = of.was; among = subst (λ (xs : List Piece). Contains xs of.was) split (Contains-append_right (take kept old) (drop kept old) of.was of.among); from = of.from; count = of.count })
    (Contains-append_cases (take kept old) (at_places (drop kept old) (blocks_of_units units)) p
    (Contains-permutation placed (take kept old ++ at_places (drop kept old) (blocks_of_units units)) p (IsPermutation-sym (take kept old ++ at_places (drop kept old) (blocks_of_units units)) placed are.same) among))

-- the blocks of a piece that stays are used
pub stays_used : (image : Image) (found : Pieces) (o : Options) (plan : Plan) (placed : List Piece) → HasPlan image found o plan → WerePlaced found.kept plan.data_ found.items.items placed
    → (p : Piece) (b : ℕ) → Contains placed p → p.from ≡ Some p.place → p.place ≤ b → b < p.place + p.count → has (used_of image) b ≡ true
stays_used image found o plan placed has_plan are p b among stays low high =
    let used : List Bool = used_of image in
    let by : Owners = owner (files_of image has_plan.keys) in
    let of = was_one found.kept plan.data_ found.items.items placed p are among in
    let cover = pieces_cover_used used by (tails o.inline (files_of image has_plan.keys)) in
    let there : Contains (all_pieces used by (tails o.inline (files_of image has_plan.keys))) of.was = subst (λ (xs : List Piece). Contains xs of.was) has_plan.found_.pieces_are of.among in
    let holds = all_at (HoldsUsed used by) (all_pieces used by (tails o.inline (files_of image has_plan.keys))) of.was cover.each there in
    let few = of.count in
    holds.used_ b (p.place, of.from ∙ stays, low, omega (arith, high, few))
