-- How much of a list lies between two places.
use Rattle.space_items.proofs.Imports.{◌≡◌, ◌<◌, ◌≤◌, ℕ, zero, suc, ◌+◌, ◌*◌, ◌^◌, Bool, true, false, not, cond, List, [], ◌∷◌, ◌++◌, length, filter, map, take, drop, get_or, sum_by, Some, refl, sym, ap, subst, ◌∙◌, ◌&&◌, arith, nat_le, nat_lt, slice_get, All, AllPairs, take_all, take-append-drop, get_or-drop, map_more, All-head, All-tail, All-more, All-weaker, filter_more, filter-append, sum_by-cons, sum_by-append, sum_by-le, sum_by-take-le, slice_get_within, get_or_from_slice_get, AreNodes, bytes_of_nodes, bytes_of_pieces, used_in, ArePieces, LieBefore, group_of, Group, TreeNode, PlannedChunk, Piece}
use Rattle.std.proofs.Common.{length-drop}
use Rattle.std.proofs.lemmas.Bool.Decides.{nat_tests}
use Rattle.std.proofs.lemmas.List.Filters.{sum_by-filter_both}

pub not_in_below : (low high a : ℕ) → a < low → (nat_le low a && nat_lt a high) ≡ false
not_in_below low high a h = grind (arith, nat_tests)

pub not_in_above : (low high a : ℕ) → high ≤ a → (nat_le low a && nat_lt a high) ≡ false
not_in_above low high a h = grind (arith, nat_tests)

pub in_between : (low high a : ℕ) → low ≤ a → a < high → (nat_le low a && nat_lt a high) ≡ true
in_between low high a h k = grind (arith, nat_tests)

pub all_at : {A : Type 0} (P : A → Type 0) (xs : List A) (n : ℕ) (x : A) → All P xs → slice_get xs n ≡ Some x → P x
all_at P xs n x all there = subst P (get_or_from_slice_get xs n x x there) (all n x (slice_get_within xs n x there))

-- two neighbours
pub pairs_next : {A : Type 0} (R : A → A → Type 0) (xs : List A) (n : ℕ) (x y : A) → AllPairs R xs → slice_get xs n ≡ Some x → slice_get xs (n + 1) ≡ Some y → R x y
pairs_next R xs n x y all here next =
    subst (λ z. R z y) (get_or_from_slice_get xs n x x here) (subst (λ z. R (get_or xs n x) z) (get_or_from_slice_get xs (n + 1) y x next) (all n (n + 1) x (omega arith) (slice_get_within xs (n + 1) y next)))

-- intervals of numbers from one on to before n that lie one behind the other
pub apart_fit : {A : Type 0} (start count : A → ℕ) (n low : ℕ) (xs : List A) → low ≤ n → All (λ x. low ≤ start x) xs → AllPairs (λ x y. start x + count x ≤ start y) xs → All (λ x. start x + count x ≤ n) xs
    → low + sum_by count xs ≤ n
apart_fit start count n low [] within above apart below = omega (arith, within)
apart_fit start count n low (x ∷ xs) within above apart below =
    let all : sum_by count (x ∷ xs) ≡ count x + sum_by count xs = sum_by-cons count x xs in
    let here : low ≤ start x = All-head (λ y. low ≤ start y) x xs above in
    let end : start x + count x ≤ n = All-head (λ y. start y + count y ≤ n) x xs below in
    let rest : start x + count x + sum_by count xs ≤ n =
    apart_fit start count n (start x + count x) xs end (λ k d inside. apart zero (suc k) d (omega arith) (omega arith))
    (λ i j d order inside. apart (suc i) (suc j) d (omega arith) (omega arith)) (All-tail (λ y. start y + count y ≤ n) x xs below) in
    omega (arith, all, here, rest)

module _ {A : Type 0} (place amount : A → ℕ) where
  -- the sum over what lies from one place to before another
  abbrev pub counted : ℕ → ℕ → List A → ℕ
  counted low high xs = sum_by amount (filter (λ x. nat_le low (place x) && nat_lt (place x) high) xs)

  pub lies_more : (end : ℕ) (xs : List A) (n : ℕ) (x : A) → LieBefore place end xs n → slice_get xs n ≡ Some x → place x < end → LieBefore place end xs (n + 1)
  lies_more end xs n x lie there here =
      let within = slice_get_within xs n x there in
      record {
        within = omega (arith, within);
        before = All-more (λ y. place y < end) xs n x within lie.before (subst (λ y. place y < end) (sym (get_or_from_slice_get xs n x x there)) here);
      }

  pub lies_weaker : (low high : ℕ) (xs : List A) (n : ℕ) → LieBefore place low xs n → low ≤ high → LieBefore place high xs n
  lies_weaker low high xs n lie h = record { within = lie.within; before = All-weaker (λ y. place y < low) (λ y. place y < high) (λ y b. omega (arith, b, h)) (take n xs) lie.before }

  none_of : (low high : ℕ) (xs : List A) → All (λ x. (nat_le low (place x) && nat_lt (place x) high) ≡ false) xs → counted low high xs ≡ 0
  none_of low high [] all = refl
  none_of low high (x ∷ xs) all =
      by (nat_le low (place x) && nat_lt (place x) high) (All-head (λ y. (nat_le low (place y) && nat_lt (place y) high) ≡ false) x xs all)
      (none_of low high xs (All-tail (λ y. (nat_le low (place y) && nat_lt (place y) high) ≡ false) x xs all))
    where
      rest : List A
      rest = filter (λ y. nat_le low (place y) && nat_lt (place y) high) xs

      by : (b : Bool) → b ≡ false → sum_by amount rest ≡ 0 → sum_by amount (cond b (x ∷ rest) rest) ≡ 0
      by true is none = absurd cc
      by false is none = none

  -- what lies before the first of the two places
  pub counted_none : (low high : ℕ) (xs : List A) (n : ℕ) → LieBefore place low xs n → counted low high (take n xs) ≡ 0
  counted_none low high xs n lie = none_of low high (take n xs) (All-weaker (λ y. place y < low) (λ y. (nat_le low (place y) && nat_lt (place y) high) ≡ false) (λ y b. not_in_below low high (place y) b) (take n xs) lie.before)

  -- one element more
  pub counted_more : (low high : ℕ) (xs : List A) (n : ℕ) (x : A) → slice_get xs n ≡ Some x → counted low high (take (n + 1) xs) ≡ counted low high (take n xs) + cond (nat_le low (place x) && nat_lt (place x) high) (amount x) 0
  counted_more low high xs n x there =
      ap (sum_by amount) (filter_more test xs n x (slice_get_within xs n x there) ∙ ap (λ (y : A). filter test (take n xs) ++ cond (test y) (y ∷ []) []) (get_or_from_slice_get xs n x x there))
      ∙ (sum_by-append amount (filter test (take n xs)) (cond (test x) (x ∷ []) []) ∙ ap (λ (k : ℕ). counted low high (take n xs) + k) (one (test x)))
    where
      test : A → Bool
      test = λ y. nat_le low (place y) && nat_lt (place y) high

      one : (b : Bool) → sum_by amount (cond b (x ∷ []) []) ≡ cond b (amount x) 0
      one true = omega arith
      one false = refl

  pub counted_in : (low high : ℕ) (xs : List A) (n : ℕ) (x : A) → slice_get xs n ≡ Some x → low ≤ place x → place x < high → counted low high (take (n + 1) xs) ≡ counted low high (take n xs) + amount x
  counted_in low high xs n x there h k = counted_more low high xs n x there ∙ ap (λ (b : Bool). counted low high (take n xs) + cond b (amount x) 0) (in_between low high (place x) h k)

  pub counted_out : (low high : ℕ) (xs : List A) (n : ℕ) (x : A) → slice_get xs n ≡ Some x → place x < low → counted low high (take (n + 1) xs) ≡ counted low high (take n xs)
  counted_out low high xs n x there h =
      let more = counted_more low high xs n x there ∙ ap (λ (b : Bool). counted low high (take n xs) + cond b (amount x) 0) (not_in_below low high (place x) h) in omega (arith, more)

  -- no more than all
  pub counted_within : (low high : ℕ) (xs : List A) (n : ℕ) → counted low high (take n xs) ≤ sum_by amount xs
  counted_within low high xs n =
      let both = sum_by-filter_both test (λ y. not (test y)) (λ y. refl) amount (take n xs) in
      let part = sum_by-take-le amount xs n in
      omega (arith, both, part)
    where
      test : A → Bool
      test = λ y. nat_le low (place y) && nat_lt (place y) high

  -- an element behind the second place, and all behind it
  pub counted_stop : (low high : ℕ) (xs : List A) (n : ℕ) (x : A) → slice_get xs n ≡ Some x → high ≤ place x → AllPairs (λ a b. place a ≤ place b) xs → counted low high (take n xs) ≡ counted low high xs
  counted_stop low high xs n x there h ascend =
      let all = ap (counted low high) (take-append-drop n xs) in
      let parts = ap (sum_by amount) (filter-append test (take n xs) (drop n xs)) ∙ sum_by-append amount (filter test (take n xs)) (filter test (drop n xs)) in
      let none = none_of low high (drop n xs) behind in
      omega (arith, all, parts, none)
    where
      test : A → Bool
      test = λ y. nat_le low (place y) && nat_lt (place y) high

      later : (k : ℕ) (d : A) → n + k < length xs → high ≤ place (get_or xs (n + k) d)
      later zero d inside =
          let none : n + 0 ≡ n = omega arith in
          let is = ap place (ap (λ (j : ℕ). get_or xs j d) none ∙ get_or_from_slice_get xs n x d there) in
          omega (arith, is, h)
      later (suc k) d inside =
          let is = ap place (get_or_from_slice_get xs n x d there) in
          let up = ascend n (n + suc k) d (omega arith) inside in
          omega (arith, is, up, h)

      behind : All (λ y. test y ≡ false) (drop n xs)
      behind = λ k d inside.
          let long = length-drop n xs in
          let at = get_or-drop n xs k d in
          not_in_above low high (place (get_or (drop n xs) k d)) (subst (λ (y : A). high ≤ place y) (sym at) (later k d (omega (arith, long, inside))))

-- what pieces take is no more than the volume has
abbrev pub piece_place : Piece → ℕ
piece_place p = 4096 * p.place

abbrev pub piece_bytes : Piece → ℕ
piece_bytes p = 4096 * p.count

pub pieces_fit : (pieces : List Piece) → ArePieces pieces → sum_by piece_bytes pieces ≤ 2 ^ 41
pieces_fit pieces are =
    let fit : 0 + sum_by piece_bytes pieces ≤ 2 ^ 41 =
    apart_fit piece_place piece_bytes (2 ^ 41) 0 pieces (omega arith) (λ k d inside. omega arith)
    (λ i j d order inside. let h = are.ascending i j d order inside in omega (arith, h))
    (λ k d inside. let h = (are.small k d inside).place in omega (arith, h)) in
    omega (arith, fit)

pub pieces_rise : (pieces : List Piece) → ArePieces pieces → AllPairs (λ p q. piece_place p ≤ piece_place q) pieces
pieces_rise pieces are = λ i j d order inside. let h = are.ascending i j d order inside in omega (arith, h)

pub nodes_fit : (nodes : List TreeNode) (nodesize : ℕ) → nodesize ≤ 65536 → AreNodes nodes → sum_by (λ n. nodesize) nodes ≤ 2 ^ 60
nodes_fit nodes nodesize small are =
    let all = sum_by-le (λ n. nodesize) 65536 nodes (λ k d inside. small) in
    let few = are.few in
    omega (arith, all, few)

pub nodes_rise : (nodes : List TreeNode) → AreNodes nodes → AllPairs (λ m n. m.address ≤ n.address) nodes
nodes_rise nodes are = λ i j d order inside. let h = are.ascending i j d order inside in omega (arith, h)

abbrev pub node_place : TreeNode → ℕ
node_place n = n.address

-- one group more
pub groups_more : (f : PlannedChunk → Group) (chunks : List PlannedChunk) (i : ℕ) (c : PlannedChunk) (g : Group) (old new : List Group) → slice_get chunks i ≡ Some c → g ≡ f c → old ≡ map f (take i chunks) → new ≡ old ++ g ∷ [] → new ≡ map f (take (i + 1) chunks)
groups_more f chunks i c g old new there is so_far added =
    added
    ∙ (ap (λ (l : List Group). l ++ g ∷ []) so_far
    ∙ (ap (λ (h : Group). map f (take i chunks) ++ h ∷ []) is
    ∙ sym (map_more f chunks i c (slice_get_within chunks i c there) ∙ ap (λ (d : PlannedChunk). map f (take i chunks) ++ f d ∷ []) (get_or_from_slice_get chunks i c c there))))

-- of one element, in an interval and behind it
in_or_behind : (a n low mid : ℕ) → low ≤ mid → cond (nat_le low a && nat_lt a mid) n 0 + cond (nat_le mid a) n 0 ≤ cond (nat_le low a) n 0
in_or_behind a n low mid h = grind (arith, nat_tests)

lower_from : (a n low mid : ℕ) → low ≤ mid → cond (nat_le mid a) n 0 ≤ cond (nat_le low a) n 0
lower_from a n low mid h = grind (arith, nat_tests)

-- What lies in intervals that lie one behind the other is no more than all.
module _ {A : Type 0} (place amount : A → ℕ) where
  abbrev from_on : ℕ → List A → ℕ
  from_on low xs = sum_by amount (filter (λ x. nat_le low (place x)) xs)

  one_more : (test : A → Bool) (x : A) (xs : List A) → sum_by amount (filter test (x ∷ xs)) ≡ cond (test x) (amount x) 0 + sum_by amount (filter test xs)
  one_more test x xs = by (test x)
    where
      by : (b : Bool) → sum_by amount (cond b (x ∷ filter test xs) (filter test xs)) ≡ cond b (amount x) 0 + sum_by amount (filter test xs)
      by true = sum_by-cons amount x (filter test xs)
      by false = omega arith

  cut_off : (low mid : ℕ) → low ≤ mid → (xs : List A) → counted place amount low mid xs + from_on mid xs ≤ from_on low xs
  cut_off low mid h [] = omega arith
  cut_off low mid h (x ∷ xs) =
      let here = in_or_behind (place x) (amount x) low mid h in
      let rest = cut_off low mid h xs in
      let first = one_more (λ y. nat_le low (place y) && nat_lt (place y) mid) x xs in
      let second = one_more (λ y. nat_le mid (place y)) x xs in
      let all = one_more (λ y. nat_le low (place y)) x xs in
      omega (arith, here, rest, first, second, all)

  from_lower : (low mid : ℕ) → low ≤ mid → (xs : List A) → from_on mid xs ≤ from_on low xs
  from_lower low mid h [] = omega arith
  from_lower low mid h (x ∷ xs) =
      let here = lower_from (place x) (amount x) low mid h in
      let rest = from_lower low mid h xs in
      let first = one_more (λ y. nat_le mid (place y)) x xs in
      let all = one_more (λ y. nat_le low (place y)) x xs in
      omega (arith, here, rest, first, all)

  apart_from : {C : Type 0} (start end : C → ℕ) (low : ℕ) (xs : List A) (cs : List C) → All (λ c. low ≤ start c) cs → ((c : C) → start c ≤ end c) → AllPairs (λ c d. end c ≤ start d) cs → sum_by (λ c. counted place amount (start c) (end c) xs) cs ≤ from_on low xs
  apart_from start end low xs [] above forward apart = omega arith
  apart_from start end low xs (c ∷ cs) above forward apart =
      let all = sum_by-cons (λ d. counted place amount (start d) (end d) xs) c cs in
      let rest = apart_from start end (end c) xs cs (λ k d inside. apart zero (suc k) d (omega arith) (omega arith)) forward (λ i j d order inside. apart (suc i) (suc j) d (omega arith) (omega arith)) in
      let both = cut_off (start c) (end c) (forward c) xs in
      let down = from_lower low (start c) (All-head (λ d. low ≤ start d) c cs above) xs in
      omega (arith, all, rest, both, down)

  pub apart_counted : {C : Type 0} (start end : C → ℕ) (xs : List A) (cs : List C) → ((c : C) → start c ≤ end c) → AllPairs (λ c d. end c ≤ start d) cs → sum_by (λ c. counted place amount (start c) (end c) xs) cs ≤ sum_by amount xs
  apart_counted start end xs cs forward apart =
      let part = apart_from start end 0 xs cs (λ k d inside. omega arith) forward apart in
      let all = sum_by-filter_both (λ y. nat_le 0 (place y)) (λ y. not (nat_le 0 (place y))) (λ y. refl) amount xs in
      omega (arith, part, all)

sum_both : {A : Type 0} (f g : A → ℕ) (xs : List A) → sum_by (λ x. f x + g x) xs ≡ sum_by f xs + sum_by g xs
sum_both f g [] = refl
sum_both f g (x ∷ xs) =
    let all = sum_by-cons (λ y. f y + g y) x xs in
    let first = sum_by-cons f x xs in
    let second = sum_by-cons g x xs in
    let rest = sum_both f g xs in
    omega (arith, all, first, second, rest)

sum_of_groups : (pieces : List Piece) (nodes : List TreeNode) (nodesize : ℕ) (cs : List PlannedChunk) → sum_by (λ g. g.used) (map (group_of pieces nodes nodesize) cs) ≡ sum_by (used_in pieces nodes nodesize) cs
sum_of_groups pieces nodes nodesize [] = refl
sum_of_groups pieces nodes nodesize (c ∷ cs) =
    let all = sum_by-cons (λ g. g.used) (group_of pieces nodes nodesize c) (map (group_of pieces nodes nodesize) cs) in
    let some = sum_by-cons (used_in pieces nodes nodesize) c cs in
    let rest = sum_of_groups pieces nodes nodesize cs in
    omega (arith, all, some, rest)

-- what extents take of chunks that do not overlap
pub used_within : (pieces : List Piece) (nodes : List TreeNode) (nodesize : ℕ) (cs : List PlannedChunk) → nodesize ≤ 65536 → ArePieces pieces → AreNodes nodes → AllPairs (λ c d. c.start + c.length ≤ d.start) cs
    → sum_by (λ g. g.used) (map (group_of pieces nodes nodesize) cs) < 2 ^ 64
used_within pieces nodes nodesize cs small are_pieces are_nodes apart =
    let all = sum_of_groups pieces nodes nodesize cs in
    let both = sum_both (bytes_of_pieces pieces) (bytes_of_nodes nodes nodesize) cs in
    let behind : AllPairs (λ c d. 4096 * (c.start + c.length) ≤ 4096 * d.start) cs = λ i j d order inside. let h = apart i j d order inside in omega (arith, h) in
    let of_pieces : sum_by (bytes_of_pieces pieces) cs ≤ sum_by piece_bytes pieces = apart_counted piece_place piece_bytes (λ (c : PlannedChunk). 4096 * c.start) (λ (c : PlannedChunk). 4096 * (c.start + c.length)) pieces cs (λ c. omega arith) behind in
    let of_nodes : sum_by (bytes_of_nodes nodes nodesize) cs ≤ sum_by (λ n. nodesize) nodes = apart_counted node_place (λ n. nodesize) (λ (c : PlannedChunk). 4096 * c.start) (λ (c : PlannedChunk). 4096 * (c.start + c.length)) nodes cs (λ c. omega arith) behind in
    let few = pieces_fit pieces are_pieces in
    let some = nodes_fit nodes nodesize small are_nodes in
    omega (arith, all, both, of_pieces, of_nodes, few, some)
