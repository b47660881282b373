-- Items that are pushed one after the other.
use Rattle.btr_tree_writer.proofs.Imports.{◌≡◌, ℕ, ◌+◌, ◌*◌, ◌<◌, ◌≤◌, Bool, true, false, List, [], ◌∷◌, ◌++◌, length, take, Some, Result, Ok, Err, refl, sym, ap, subst, ◌∙◌, arith, append_assoc, ⊎_elim, All, concat, sum, append-nil, length-take, get_or-take, map-append, All-nil, All-cons, All-head, All-tail, All-append, sum_by-append, History, WritesOnly, writes_weaker, Key, Item, keys_of, IsNodeSize, leaves_of, bytes_of, tree_nodes, capacity, fan_out, weight, packed_leaves, level_sizes, lengths_of, IsInSlots, IsErrAnd, TreeAnswer, of_builder, WriteAnswer, AreWritable, IsAbove, last_key}
use Rattle.std.specs.Ordering.{is_lt}
use Rattle.std.specs.declared.cmp.Ordering.{Ordering}
use Rattle.std.specs.declared.cmp.Ordering.TheVariants.{Less, Equal, Greater}
use Rattle.std.proofs.Math.Nat.{mul-le-mul_left}
use Rattle.std.proofs.lemmas.Bool.{cases_lt}
use Rattle.btr_tree.specs.btr_keys.Key.{key_cmp}
use Rattle.btr_tree.specs.btr_node.Order.{is_before, ascends, Ascends}
use Rattle.btr_tree.proofs.btr_node.Ascending.{second_ascends}
use Rattle.btr_tree.proofs.btr_node.Rows.{both, joined}
use Rattle.btr_tree.proofs.Falling.{never_fall}
use Rattle.btr_tree.proofs.FullGroups.{packing_full}
use Rattle.btr_tree.proofs.Leaves.{packed_same}
use Rattle.btr_tree.proofs.Sizes.{sum-one, sum-more}
use Rattle.btr_tree.specs.declared.answer.TreeAnswer.TheVariants as builder
use Rattle.btr_tree_writer.specs.declared.answer.WriteAnswer.TheVariants as answer

pub last_pushed : (items : List Item) (item : Item) → last_key (items ++ item ∷ []) ≡ Some item.0
last_pushed [] item = refl
last_pushed (i ∷ []) item = refl
last_pushed (i ∷ (j ∷ items)) item = last_pushed (j ∷ items) item

-- a key above the last one may follow
may_follow : (items : List Item) (key : Key) → Ascends (keys_of items) → IsAbove (last_key items) key → Ascends (keys_of items ++ key ∷ [])
may_follow [] key order above = refl
may_follow (i ∷ []) key order above = joined (is_before i.0 key) (ascends (key ∷ [])) (ap is_lt above) refl
may_follow (i ∷ (j ∷ items)) key order above =
    let parts = both (is_before i.0 j.0) (ascends (keys_of (j ∷ items))) order in
    joined (is_before i.0 j.0) (ascends (keys_of (j ∷ items) ++ key ∷ [])) parts.0 (may_follow (j ∷ items) key parts.1 above)

-- it follows those in hand too
pub held_order : (front draft : List Item) (key : Key) → Ascends (keys_of (front ++ draft)) → IsAbove (last_key (front ++ draft)) key → Ascends (keys_of draft ++ key ∷ [])
held_order front draft key order above =
    second_ascends (keys_of front) (keys_of draft ++ key ∷ [])
    (subst (λ (ks : List Key). Ascends ks) (ap (λ (ks : List Key). ks ++ key ∷ []) (map-append (λ (i : Item). i.0) front draft) ∙ append_assoc (keys_of front) (keys_of draft) (key ∷ []))
    (may_follow (front ++ draft) key order above))

less_is : (o : Ordering) → is_lt o ≡ true → o ≡ Less
less_is Less h = refl
less_is Equal h = absurd (cc h)
less_is Greater h = absurd (cc h)

-- and only such a key may follow
pub must_follow : (items rest : List Item) (item : Item) → Ascends (keys_of (items ++ item ∷ rest)) → IsAbove (last_key items) item.0
must_follow [] rest item order = tt
must_follow (i ∷ []) rest item order = less_is (key_cmp i.0 item.0) (both (is_before i.0 item.0) (ascends (keys_of (item ∷ rest))) order).0
must_follow (i ∷ (j ∷ items)) rest item order = must_follow (j ∷ items) rest item (both (is_before i.0 j.0) (ascends (keys_of (j ∷ (items ++ item ∷ rest)))) order).1

pub must_be_short : (nodesize : ℕ) (items rest : List Item) (item : Item) → All (λ i. length i.1 + 126 ≤ nodesize) (items ++ item ∷ rest) → length item.1 + 126 ≤ nodesize
must_be_short nodesize [] rest item all = All-head (λ (i : Item). length i.1 + 126 ≤ nodesize) item rest all
must_be_short nodesize (i ∷ items) rest item all = must_be_short nodesize items rest item (All-tail (λ (i : Item). length i.1 + 126 ≤ nodesize) i (items ++ item ∷ rest) all)

leaves_within : (fan n : ℕ) → n ≤ sum (level_sizes 256 fan n)
leaves_within fan n =
    ⊎_elim (λ (more : 1 < n). omega (arith, sum-more 255 fan n more)) (λ (one : n ≤ 1). omega (arith, sum-one 255 fan n one)) (cases_lt 1 n)

first_nodes : (nodesize : ℕ) → IsNodeSize nodesize → (before rest : List ℕ) → tree_nodes nodesize before ≤ tree_nodes nodesize (before ++ rest)
first_nodes nodesize size before [] = subst (λ (ls : List ℕ). tree_nodes nodesize before ≤ tree_nodes nodesize ls) (sym (append-nil before)) (omega arith)
first_nodes nodesize size before (n ∷ rest) = omega (arith, first_nodes nodesize size before rest, never_fall nodesize before rest n size)

-- too few slots for the leaves of the first items are too few for all
pub too_few : (nodesize : ℕ) (slots : List ℕ) (items rest : List Item) (item : Item) → IsNodeSize nodesize → length slots < leaves_of nodesize (items ++ item ∷ []) → ¬ AreWritable nodesize slots (items ++ item ∷ rest)
too_few nodesize slots items rest item size short = λ writable.
    let first : List Item = items ++ item ∷ [] in
    let lens : lengths_of (items ++ item ∷ rest) ≡ lengths_of first ++ lengths_of rest =
    sym (ap lengths_of (append_assoc items (item ∷ []) rest)) ∙ map-append (λ (i : Item). length i.1) first rest in
    let few : tree_nodes nodesize (lengths_of first ++ lengths_of rest) ≤ length slots = subst (λ (ls : List ℕ). tree_nodes nodesize ls ≤ length slots) lens writable.few in
    omega (arith, short, few, packed_same (capacity nodesize) first, leaves_within (fan_out nodesize) (length (packed_leaves nodesize (lengths_of first))), first_nodes nodesize size (lengths_of first) (lengths_of rest))

bytes_within : (room : ℕ) (groups : List (List ℕ)) → All (λ g. bytes_of g ≤ room) groups → bytes_of (concat groups) ≤ room * length groups
bytes_within room [] all = omega arith
bytes_within room (g ∷ groups) all =
    let later : bytes_of (concat groups) ≤ room * length groups = bytes_within room groups (All-tail (λ (g : List ℕ). bytes_of g ≤ room) g groups all) in
    let here : bytes_of g ≤ room = All-head (λ (g : List ℕ). bytes_of g ≤ room) g groups all in
    omega (arith, later, here, sum_by-append weight g (concat groups))

weights_short : (nodesize : ℕ) (items : List Item) → All (λ i. length i.1 + 126 ≤ nodesize) items → All (λ n. weight n ≤ capacity nodesize) (lengths_of items)
weights_short nodesize [] all = All-nil (λ (n : ℕ). weight n ≤ capacity nodesize)
weights_short nodesize (i ∷ items) all =
    let here : length i.1 + 126 ≤ nodesize = All-head (λ (i : Item). length i.1 + 126 ≤ nodesize) i items all in
    All-cons (λ (n : ℕ). weight n ≤ capacity nodesize) (length i.1) (lengths_of items) (omega (arith, here))
    (weights_short nodesize items (All-tail (λ (i : Item). length i.1 + 126 ≤ nodesize) i items all))

-- the leaves hold no more bytes than they have room for
pub bytes_fit : (nodesize : ℕ) (slots : List ℕ) (items : List Item) → All (λ i. length i.1 + 126 ≤ nodesize) items → leaves_of nodesize items ≤ length slots
    → bytes_of (lengths_of items) ≤ capacity nodesize * length slots
bytes_fit nodesize slots items short fits =
    let groups : List (List ℕ) = packed_leaves nodesize (lengths_of items) in
    let is = packing_full (capacity nodesize) (lengths_of items) (weights_short nodesize items short) in
    let few : length groups ≤ length slots = omega (arith, fits, packed_same (capacity nodesize) items) in
    let all : bytes_of (concat groups) ≤ capacity nodesize * length groups = bytes_within (capacity nodesize) groups is.fit in
    let more : capacity nodesize * length groups ≤ capacity nodesize * length slots = mul-le-mul_left (capacity nodesize) few in
    subst (λ (ls : List ℕ). bytes_of ls ≤ capacity nodesize * length slots) is.whole (omega (arith, all, more))

-- a block of the first slots is one of all
pub in_all : (size n : ℕ) (slots : List ℕ) (b : ℕ) → IsInSlots size (take n slots) b → IsInSlots size slots b
in_all size n slots b found =
    let k : ℕ = found.0 in
    let x : ℕ = found.1 in
    let inside : k < length (take n slots) = found.2 in
    let early : k < n = omega (arith, inside, length-take n slots) in (
      k,
      x,
      omega (arith, inside, length-take n slots),
      sym (get_or-take n slots k x early) ∙ found.3,
      found.4,
    )

pub only_all : (size n : ℕ) (slots : List ℕ) (old new : History) → WritesOnly (λ b _. IsInSlots size (take n slots) b) old new → WritesOnly (λ b _. IsInSlots size slots b) old new
only_all size n slots old new only =
    writes_weaker (λ b _. IsInSlots size (take n slots) b) (λ b _. IsInSlots size slots b) (λ b _ h. in_all size n slots b h) old new only

pub not_both : (b : Bool) → b ≡ false → b ≡ true → ⊥
not_both true isnt is = absurd (cc isnt)
not_both false isnt is = absurd (cc is)

pub false_then : (b : Bool) → (b ≡ true → false ≡ true) → b ≡ false
false_then true told = absurd (cc (told refl))
false_then false told = refl

-- a misfit of the builder is that it is out of slots
pub misfit_back : {T : Type 0} (r : Result T WriteAnswer) (a : TreeAnswer) → IsErrAnd r (λ e. e ≡ of_builder a) → r ≡ Err answer.Misfit → a ≡ builder.OutOfSlots
misfit_back r builder.OutOfSlots told is = refl
misfit_back (Ok x) builder.Fault told is = absurd (cc is)
misfit_back (Err e) builder.Fault told is = absurd (cc (told, is))
misfit_back (Ok x) builder.Memory told is = absurd (cc is)
misfit_back (Err e) builder.Memory told is = absurd (cc (told, is))

pub short_pushed : (nodesize : ℕ) (items : List Item) (item : Item) → All (λ i. length i.1 + 126 ≤ nodesize) items → length item.1 + 126 ≤ nodesize
    → All (λ i. length i.1 + 126 ≤ nodesize) (items ++ item ∷ [])
short_pushed nodesize items item all here =
    All-append (λ (i : Item). length i.1 + 126 ≤ nodesize) items (item ∷ []) all
    (All-cons (λ (i : Item). length i.1 + 126 ≤ nodesize) item [] here (All-nil (λ (i : Item). length i.1 + 126 ≤ nodesize)))
