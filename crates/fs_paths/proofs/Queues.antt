-- The queue of the objects that are reached: all in it are reached, and in the end it is closed under links.
use Rattle.fs_paths.proofs.Imports.{◌≡◌, ℕ, zero, suc, ◌+◌, ◌<◌, ◌≤◌, Bool, true, false, not, cond, ◌||◌, List, [], ◌∷◌, ◌++◌, length, get_or, filter, count_by, Contains, All, ⊎_elim, refl, sym, ap, subst, ◌∙◌, true≢false, arith, list_any, cases_lt, append-nil, append_assoc, length-append, All-cons, All-nil, All-push, All-map, All-filter, All-contains_itself, filter_passes, list_any-append, Any-from_list_any, IsPermutation-sym, Contains-permutation, insert_key, insert_all, NodeLink, NodeId, same_node, named_by, followed, waiting, IsReachedBy, IsReached, AreReached, is_of}
use Rattle.std.proofs.Math.ListN.{get_or-append}
use Rattle.std.specs.Prelude.{IsPermutation}
use Rattle.fs_paths.proofs.Counts.{count_cons}
use Rattle.fs_paths.proofs.Lists.{head_or_tail, in_map, in_filter}
use Rattle.fs_paths.proofs.Nodes.{same_node-true, same_node-self}

abbrev in_queue : List NodeId → NodeId → Bool
in_queue queue node = list_any (same_node node) queue

abbrev inserted : List NodeId → NodeId → List NodeId
inserted queue node = insert_key same_node queue node

abbrev all_inserted : List NodeId → List NodeId → List NodeId
all_inserted queue more = insert_all same_node queue more

or_kept : (a b : Bool) → a ≡ true → (a || b) ≡ true
or_kept true b is = refl
or_kept false b is = absurd (true≢false (sym is))

or_last : (a : Bool) → (a || (true || false)) ≡ true
or_last true = refl
or_last false = refl

-- what is in the queue stays at its place
one_tail : (queue : List NodeId) (node : NodeId) → (tail : List NodeId) × (inserted queue node ≡ queue ++ tail)
one_tail queue node = by (in_queue queue node)
  where
    by : (b : Bool) → (tail : List NodeId) × (cond b queue (queue ++ node ∷ []) ≡ queue ++ tail)
    by true = ([], sym (append-nil queue))
    by false = (node ∷ [], refl)

all_tail : (queue more : List NodeId) → (tail : List NodeId) × (all_inserted queue more ≡ queue ++ tail)
all_tail queue [] = ([], sym (append-nil queue))
all_tail queue (node ∷ more) =
    let one = one_tail queue node in
    let rest = all_tail (inserted queue node) more in
    (one.0 ++ rest.0, rest.1 ∙ (ap (λ (l : List NodeId). l ++ rest.0) one.1 ∙ append_assoc queue one.0 rest.0))

kept : (queue more : List NodeId) (node : NodeId) → in_queue queue node ≡ true → in_queue (all_inserted queue more) node ≡ true
kept queue more node is =
    let tail = all_tail queue more in
    ap (λ (l : List NodeId). in_queue l node) tail.1 ∙ (list_any-append (same_node node) queue tail.0 ∙ or_kept (in_queue queue node) (in_queue tail.0 node) is)

-- what is inserted is in it
inserted_in : (queue : List NodeId) (node : NodeId) → in_queue (inserted queue node) node ≡ true
inserted_in queue node = by (in_queue queue node) refl
  where
    by : (b : Bool) → in_queue queue node ≡ b → in_queue (cond b queue (queue ++ node ∷ [])) node ≡ true
    by true is = is
    by false is =
        list_any-append (same_node node) queue (node ∷ []) ∙ (ap (λ (b : Bool). in_queue queue node || (b || false)) (same_node-self node) ∙ or_last (in_queue queue node))

all_in : (queue more : List NodeId) (node : NodeId) → Contains more node → in_queue (all_inserted queue more) node ≡ true
all_in queue [] node among = absurd (omega (arith, among.1))
all_in queue (first ∷ more) node among =
    ⊎_elim (λ own. kept (inserted queue first) more node (ap (λ (n : NodeId). in_queue (inserted queue n) node) own ∙ inserted_in queue node)) (λ later. all_in (inserted queue first) more node later) (head_or_tail first more node among)

-- nothing else is
all_of : (P : NodeId → Type 0) (queue more : List NodeId) → All P queue → All P more → All P (all_inserted queue more)
all_of P queue [] before added = before
all_of P queue (node ∷ more) before added = all_of P (inserted queue node) more (by (in_queue queue node)) (λ k d within. added (suc k) d (omega arith))
  where
    by : (b : Bool) → All P (cond b queue (queue ++ node ∷ []))
    by true = before
    by false = All-push P queue node before (added 0 node (omega arith))

-- counts of what still passes
module _ {X : Type 0} (p q : X → Bool) (fewer : (x : X) → q x ≡ true → p x ≡ true) where
  one_grows : (x : X) → cond (q x) 1 0 ≤ cond (p x) 1 0
  one_grows x = by (q x) (p x) (fewer x)
    where
      by : (a b : Bool) → (a ≡ true → b ≡ true) → cond a 1 0 ≤ cond b 1 0
      by true true h = omega arith
      by true false h = absurd (true≢false (sym (h refl)))
      by false b h = omega arith

  count_grows : (xs : List X) → count_by q xs ≤ count_by p xs
  count_grows [] = omega arith
  count_grows (x ∷ xs) = omega (arith, count_cons q x xs, count_cons p x xs, one_grows x, count_grows xs)

  count_falls : (xs : List X) (x : X) → Contains xs x → p x ≡ true → q x ≡ false → count_by q xs < count_by p xs
  count_falls [] x among before after = absurd (omega (arith, among.1))
  count_falls (y ∷ xs) x among before after = ⊎_elim own (λ later. omega (arith, count_cons q y xs, count_cons p y xs, one_grows y, count_falls xs x later before after)) (head_or_tail y xs x among)
    where
      own : y ≡ x → count_by q (y ∷ xs) < count_by p (y ∷ xs)
      own is =
          let was : ◌≡◌ {A = ℕ} (cond (p y) 1 0) 1 = ap (λ (b : Bool). cond b 1 0) (ap p is ∙ before) in
          let now : ◌≡◌ {A = ℕ} (cond (q y) 1 0) 0 = ap (λ (b : Bool). cond b 1 0) (ap q is ∙ after) in
          omega (arith, count_cons q y xs, count_cons p y xs, was, now, count_grows xs)

not_true : (a b : Bool) → (a ≡ true → b ≡ true) → not b ≡ true → not a ≡ true
not_true true true h is = is
not_true true false h is = absurd (true≢false (sym (h refl)))
not_true false b h is = refl

module _ (links : List NodeLink) where
  -- each that is new waits no longer
  one_fewer : (queue : List NodeId) (link : NodeLink) → Contains links link → waiting links (inserted queue link.target) + length (inserted queue link.target) ≤ waiting links queue + length queue
  one_fewer queue link among = by (in_queue queue link.target) refl
    where
      by : (b : Bool) → in_queue queue link.target ≡ b
          → waiting links (cond b queue (queue ++ link.target ∷ [])) + length (cond b queue (queue ++ link.target ∷ [])) ≤ waiting links queue + length queue
      by true is = omega arith
      by false is =
          let there : List NodeId = queue ++ link.target ∷ [] in
          let long = length-append queue (link.target ∷ []) in
          let has : in_queue there link.target ≡ true = ap (λ (b : Bool). in_queue (cond b queue there) link.target) (sym is) ∙ inserted_in queue link.target in
          let falls = count_falls (λ (l : NodeLink). not (in_queue queue l.target)) (λ (l : NodeLink). not (in_queue there l.target))
          (λ l. not_true (in_queue queue l.target) (in_queue there l.target) (λ was. list_any-append (same_node l.target) queue (link.target ∷ []) ∙ or_kept (in_queue queue l.target) (in_queue (link.target ∷ []) l.target) was))
          links link among (ap not is) (ap not has) in
          omega (arith, long, falls)

  all_fewer : (queue more : List NodeId) → All (λ n. (link : NodeLink) × Contains links link × (link.target ≡ n)) more → waiting links (all_inserted queue more) + length (all_inserted queue more) ≤ waiting links queue + length queue
  all_fewer queue [] named = omega arith
  all_fewer queue (node ∷ more) named =
      let own = named 0 node (omega arith) in
      let one = subst (λ (n : NodeId). waiting links (inserted queue n) + length (inserted queue n) ≤ waiting links queue + length queue) own.2 (one_fewer queue own.0 own.1) in
      let rest = all_fewer (inserted queue node) more (λ k d within. named (suc k) d (omega arith)) in
      omega (arith, one, rest)

  -- what a directory's links name
  named_all : (P : NodeId → Type 0) (dir : NodeId) → ((link : NodeLink) → Contains links link → link.dir ≡ dir → P link.target) → All P (named_by links dir)
  named_all P dir each = All-map P (λ (link : NodeLink). link.target) (filter (is_of dir) links) (λ k d within.
      let link = get_or (filter (is_of dir) links) k d in
      let among = All-filter (is_of dir) (Contains links) links (All-contains_itself links) k d within in
      each link among (sym (same_node-true dir link.dir (filter_passes (is_of dir) links k d within))))

  pub follow_fewer : (queue : List NodeId) (dir : NodeId) → waiting links (followed links queue dir) + length (followed links queue dir) ≤ waiting links queue + length queue
  follow_fewer queue dir = all_fewer queue (named_by links dir) (named_all (λ n. (link : NodeLink) × Contains links link × (link.target ≡ n)) dir (λ link among of. (link, among, refl)))

-- the queue after its first objects were followed
pub data Queue (links : List NodeLink) (root : NodeId) : List NodeId → ℕ → Type 0 where
  start : Queue links root (root ∷ []) 0
  step : (queue : List NodeId) (i : ℕ) (dir : NodeId) → Queue links root queue i → i < length queue → get_or queue i dir ≡ dir → Queue links root (followed links queue dir) (i + 1)

module _ (links : List NodeLink) (root : NodeId) where
  sound : (queue : List NodeId) (i : ℕ) → Queue links root queue i → All (IsReached links root) queue
  sound _ _ start = All-cons (IsReached links root) root [] (0, refl) (All-nil (IsReached links root))
  sound _ _ (step queue i dir before within at) =
      let all = sound queue i before in
      let here = subst (IsReached links root) at (all i dir within) in
      all_of (IsReached links root) queue (named_by links dir) all
      (named_all links (IsReached links root) dir (λ link among of. (suc here.0, (link, among, refl, subst (IsReachedBy links root here.0) (sym of) here.1))))

  root_in : (queue : List NodeId) (i : ℕ) → Queue links root queue i → in_queue queue root ≡ true
  root_in _ _ start = ap (λ (b : Bool). b || false) (same_node-self root)
  root_in _ _ (step queue i dir before within at) = kept queue (named_by links dir) root (root_in queue i before)

  closed : (queue : List NodeId) (i : ℕ) → Queue links root queue i → (k : ℕ) (d : NodeId) → k < i → (link : NodeLink) → Contains links link → link.dir ≡ get_or queue k d → in_queue queue link.target ≡ true
  closed _ _ start k d less link among of = absurd (omega (arith, less))
  closed _ _ (step queue i dir before within at) k d less link among of = ⊎_elim (λ before_i. earlier (closed queue i before k d before_i link among) before_i) (λ not_less. own (omega (arith, less, not_less))) (cases_lt k i)
    where
      tail : (tail : List NodeId) × (followed links queue dir ≡ queue ++ tail)
      tail = all_tail queue (named_by links dir)

      same : k < length queue → get_or (followed links queue dir) k d ≡ get_or queue k d
      same in_old = ap (λ (l : List NodeId). get_or l k d) tail.1 ∙ get_or-append queue tail.0 d k in_old

      earlier : (link.dir ≡ get_or queue k d → in_queue queue link.target ≡ true) → k < i → in_queue (followed links queue dir) link.target ≡ true
      earlier closes before_i = kept queue (named_by links dir) link.target (closes (of ∙ same (omega (arith, before_i, within))))

      own : k ≡ i → in_queue (followed links queue dir) link.target ≡ true
      own is =
          let here : get_or queue k d ≡ dir = ap (λ (n : ℕ). get_or queue n d) is ∙ (get_same queue i d dir within ∙ at) in
          let of_dir : link.dir ≡ dir = of ∙ (same (omega (arith, is, within)) ∙ here) in
          all_in queue (named_by links dir) link.target (in_map (λ (l : NodeLink). l.target) (filter (is_of dir) links) link (in_filter (is_of dir) links link among (ap (same_node dir) of_dir ∙ same_node-self dir)))
        where
          get_same : (xs : List NodeId) (n : ℕ) (a b : NodeId) → n < length xs → get_or xs n a ≡ get_or xs n b
          get_same [] n a b less = absurd (omega (arith, less))
          get_same (x ∷ xs) zero a b less = refl
          get_same (x ∷ xs) (suc n) a b less = get_same xs n a b (omega (arith, less))

  all_reached : (queue : List NodeId) (i : ℕ) → Queue links root queue i → length queue ≤ i → (steps : ℕ) (node : NodeId) → IsReachedBy links root steps node → in_queue queue node ≡ true
  all_reached queue i walk all zero node is = ap (in_queue queue) is ∙ root_in queue i walk
  all_reached queue i walk all (suc steps) node (link, among, names, before) =
      let dir = all_reached queue i walk all steps link.dir before in
      let at = Any-from_list_any (same_node link.dir) queue dir in
      let found = same_node-true link.dir at.1 at.4 in
      ap (in_queue queue) (sym names) ∙ closed queue i walk at.0 at.1 (omega (arith, at.2, all)) link among (found ∙ sym at.3)

  pub queue_is : (queue : List NodeId) (i : ℕ) → Queue links root queue i → length queue ≤ i → AreReached links root (in_queue queue)
  queue_is queue i walk all = record {
    sound = λ node has.
        let at = Any-from_list_any (same_node node) queue has in
        subst (IsReached links root) (at.3 ∙ sym (same_node-true node at.1 at.4)) (sound queue i walk at.0 at.1 at.2);
    whole = λ node reached. all_reached queue i walk all reached.0 node reached.1;
  }

-- links in another order reach the same
reached_among : (xs ys : List NodeLink) → ((link : NodeLink) → Contains xs link → Contains ys link) → (root : NodeId) (steps : ℕ) (node : NodeId) → IsReachedBy xs root steps node → IsReachedBy ys root steps node
reached_among xs ys all root zero node is = is
reached_among xs ys all root (suc steps) node (link, among, names, before) = (link, all link among, names, reached_among xs ys all root steps link.dir before)

pub reached_sorted : (links sorted : List NodeLink) (root : NodeId) (has : NodeId → Bool) → IsPermutation links sorted → AreReached sorted root has → AreReached links root has
reached_sorted links sorted root has same reached = record {
  sound = λ node is.
      let r = reached.sound node is in
      (r.0, reached_among sorted links (λ link among. Contains-permutation sorted links link (IsPermutation-sym links sorted same) among) root r.0 node r.1);
  whole = λ node r. reached.whole node (r.0, reached_among links sorted (λ link among. Contains-permutation links sorted link same among) root r.0 node r.1);
}
