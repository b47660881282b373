-- No two pieces of a volume hold one block of it, nor one block of a file.
use Rattle.convert_trees_laws.proofs.Imports.{◌≡◌, ◌≤◌, ℕ, ◌==◌, Bool, true, false, cond, List, [], ◌∷◌, ◌++◌, length, map, take, drop, filter, get_or, Option, Some, None, refl, sym, ap, subst, ◌∙◌, arith, All, AllPairs, AllByRecursion, IsDistinct, IsPermutation, nat_tests, All-append, IsDistinct-IsPermutation, IsDistinct-from_apart, from_map, Image, all_from_contains, used_of, Options, Piece, Plan, Pieces, Tail, FileAt, owner, tails, files_of, CoverUsed, HasPlan, HoldsBlock, IsKeptPiece, Owners, copied_pieces, kept_pieces, tail_piece, WerePlaced, at_place, at_places, blocks_of_units, IsCopied, is_copied_piece, pieces_cover_used, all_at, kept_are_maximal}
use Rattle.std.proofs.Math.Seq.{drop-append_seam, take-append_seam}
use Rattle.convert_trees_laws.proofs.Rising.{all_each}

-- ---- a relation of pieces that asks nothing of their places

all_moved : (P : Piece → Type 0) (kept rest : List Piece) (places : List ℕ) → ((q : Piece) (b : ℕ) → P q → P (at_place q b)) → AllByRecursion P (kept ++ rest) → AllByRecursion P (kept ++ at_places rest places)
all_moved P [] [] places to all = tt
all_moved P [] (q ∷ rest) [] to all = tt
all_moved P [] (q ∷ rest) (b ∷ bs) to all = (to q b all.0, all_moved P [] rest bs to all.1)
all_moved P (x ∷ kept) rest places to all = (all.0, all_moved P kept rest places to all.1)

module _ (R : Piece → Piece → Bool) (left : (p q : Piece) (b : ℕ) → R (at_place p b) q ≡ R p q) (right : (p q : Piece) (b : ℕ) → R p (at_place q b) ≡ R p q) where
  distinct_moved : (kept rest : List Piece) (places : List ℕ) → IsDistinct R (kept ++ rest) → IsDistinct R (kept ++ at_places rest places)
  unfolding IsDistinct
  distinct_moved [] [] places d = tt
  distinct_moved [] (q ∷ rest) [] d = tt
  distinct_moved [] (q ∷ rest) (b ∷ bs) d = (
    all_moved (λ y. R (at_place q b) y ≡ false) [] rest bs (λ y c is. right (at_place q b) y c ∙ is) (all_each (λ y. R q y ≡ false) (λ y. R (at_place q b) y ≡ false) rest (λ y is. left q y b ∙ is) d.0),
    distinct_moved [] rest bs d.1,
  )
  distinct_moved (x ∷ kept) rest places d = (all_moved (λ y. R x y ≡ false) kept rest places (λ y c is. right x y c ∙ is) d.0, distinct_moved kept rest places d.1)

-- ---- at most one element of a part passes a test

module _ {A : Type 0} (R : A → A → Bool) (t q : A → Bool) (same : (x y : A) → q x ≡ true → t x ≡ true → q y ≡ true → t y ≡ true → R x y ≡ true) where
  none_more : (x : A) (ys : List A) → q x ≡ true → t x ≡ true → AllByRecursion (λ y. R x y ≡ false) ys → length (filter t (filter q ys)) ≤ 0
  none_more x [] in_q in_t apart = omega arith
  none_more x (y ∷ ys) in_q in_t apart = by (q y) (t y) refl refl (none_more x ys in_q in_t apart.1)
    where
      by : (a b : Bool) → q y ≡ a → t y ≡ b → length (filter t (filter q ys)) ≤ 0 → length (filter t (cond a (y ∷ filter q ys) (filter q ys))) ≤ 0
      by false b is_q is_t few = few
      by true false is_q is_t few = subst (λ (c : Bool). length (cond c (y ∷ filter t (filter q ys)) (filter t (filter q ys))) ≤ 0) (sym is_t) few
      by true true is_q is_t few = let never : true ≡ false = sym (same x y in_q in_t is_q is_t) ∙ apart.0 in absurd cc

  pub at_most_one : (xs : List A) → IsDistinct R xs → length (filter t (filter q xs)) ≤ 1
  unfolding IsDistinct
  at_most_one [] d = omega arith
  at_most_one (x ∷ xs) d = by (q x) (t x) refl refl (at_most_one xs d.1)
    where
      by : (a b : Bool) → q x ≡ a → t x ≡ b → length (filter t (filter q xs)) ≤ 1 → length (filter t (cond a (x ∷ filter q xs) (filter q xs))) ≤ 1
      by false b is_q is_t few = few
      by true false is_q is_t few = subst (λ (c : Bool). length (cond c (x ∷ filter t (filter q xs)) (filter t (filter q xs))) ≤ 1) (sym is_t) few
      by true true is_q is_t few =
          let none = none_more x xs is_q is_t d.0 in
          subst (λ (c : Bool). length (cond c (x ∷ filter t (filter q xs)) (filter t (filter q xs))) ≤ 1) (sym is_t) (omega (arith, none))

-- ---- pieces of one block of the volume

abbrev pub same_from : Option ℕ → Option ℕ → Bool
same_from None o = false
same_from (Some a) None = false
same_from (Some a) (Some b) = a == b

-- two pieces begin at one block of the volume
abbrev pub shares : Piece → Piece → Bool
shares p q = same_from p.from q.from

equal : (a b : ℕ) → (a == b) ≡ true → a ≡ b
equal a b is = grind (arith, nat_tests)

turned : (a b : ℕ) → (a == b) ≡ (b == a)
turned a b = grind (arith, nat_tests)

shares_flips : (p q : Piece) → shares p q ≡ shares q p
shares_flips p q = by p.from q.from
  where
    by : (x y : Option ℕ) → same_from x y ≡ same_from y x
    by None None = refl
    by None (Some b) = refl
    by (Some a) None = refl
    by (Some a) (Some b) = turned a b

no_share : (p q : Piece) → 1 ≤ p.count → 1 ≤ q.count → ((b : ℕ) → HoldsBlock b p → HoldsBlock b q → ⊥) → shares p q ≡ false
no_share p q some other once = by p.from q.from refl refl
  where
    by : (x y : Option ℕ) → p.from ≡ x → q.from ≡ y → same_from x y ≡ false
    by None y is_p is_q = refl
    by (Some a) None is_p is_q = refl
    by (Some a) (Some b) is_p is_q = test (a == b) refl
      where
        test : (t : Bool) → (a == b) ≡ t → t ≡ false
        test false is = refl
        test true is = let same = equal a b is in absurd (once a (a, is_p, omega arith, omega (arith, some)) (b, is_q, omega (arith, same), omega (arith, same, other)))

-- ---- the pieces of a volume with a plan

module _ (image : Image) (found : Pieces) (o : Options) (plan : Plan) (has_plan : HasPlan image found o plan) where
  abbrev pub used : List Bool
  used = used_of image

  abbrev pub all_files : List FileAt
  all_files = files_of image has_plan.keys

  abbrev pub by : Owners
  by = owner all_files

  abbrev pub kept : List Piece
  kept = kept_pieces used by

  abbrev pub all_tails : List Tail
  all_tails = tails o.inline all_files

  abbrev pub made : List Piece
  made = map tail_piece all_tails

  abbrev pub rest : List Piece
  rest = copied_pieces used by ++ made

  abbrev pub places : List ℕ
  places = blocks_of_units plan.data_

  old_is : found.items.items ≡ kept ++ rest
  old_is = has_plan.found_.pieces_are

  front : take found.kept found.items.items ≡ kept
  front = ap (λ (n : ℕ). take n found.items.items) has_plan.found_.kept_are ∙ (ap (take (length kept)) old_is ∙ take-append_seam kept rest)

  pub back : drop found.kept found.items.items ≡ rest
  back = ap (λ (n : ℕ). drop n found.items.items) has_plan.found_.kept_are ∙ (ap (drop (length kept)) old_is ∙ drop-append_seam kept rest)

  pub permuted : (placed : List Piece) → WerePlaced found.kept plan.data_ found.items.items placed → IsPermutation (kept ++ at_places rest places) placed
  permuted placed are = subst (λ (xs : List Piece). IsPermutation (xs ++ at_places rest places) placed) front (subst (λ (xs : List Piece). IsPermutation (take found.kept found.items.items ++ at_places xs places) placed) back are.same)

  pub cover : CoverUsed used by (kept ++ rest)
  cover = pieces_cover_used used by all_tails

  -- each piece has a block
  pub some_blocks : All (λ p. 1 ≤ p.count) (kept ++ rest)
  some_blocks =
      All-append (λ p. 1 ≤ p.count) kept rest (all_from_contains (λ p. 1 ≤ p.count) kept (λ p h. let is : IsKeptPiece used by p = all_at (IsKeptPiece used by) kept p (kept_are_maximal used by).each h in let some = is.some in omega (arith, some)))
      (All-append (λ p. 1 ≤ p.count) (copied_pieces used by) made
      (all_from_contains (λ p. 1 ≤ p.count) (copied_pieces used by) (λ p h. let of : IsCopied used by p = is_copied_piece used by p h in let one = ap (λ (q : Piece). q.count) of.is in omega (arith, one)))
      (all_from_contains (λ p. 1 ≤ p.count) made (λ p h. let mapped = from_map tail_piece all_tails p h in let one = ap (λ (q : Piece). q.count) mapped.2 in omega (arith, one))))

  pub placed_distinct : (R : Piece → Piece → Bool) → ((p q : Piece) → R p q ≡ R q p) → ((p q : Piece) (b : ℕ) → R (at_place p b) q ≡ R p q) → ((p q : Piece) (b : ℕ) → R p (at_place q b) ≡ R p q)
      → AllPairs (λ p q. R p q ≡ false) (kept ++ rest) → (placed : List Piece) → WerePlaced found.kept plan.data_ found.items.items placed → IsDistinct R placed
  placed_distinct R flips left right pairs placed are =
      IsDistinct-IsPermutation R flips (kept ++ at_places rest places) placed (permuted placed are) (distinct_moved R left right kept rest places (IsDistinct-from_apart R (kept ++ rest) pairs))

  pub shares_none : (placed : List Piece) → WerePlaced found.kept plan.data_ found.items.items placed → IsDistinct shares placed
  shares_none placed are =
      placed_distinct shares shares_flips (λ p q b. refl) (λ p q b. refl)
      (λ i j d order inside. no_share (get_or (kept ++ rest) i d) (get_or (kept ++ rest) j d) (some_blocks i d (omega (arith, order, inside))) (some_blocks j d inside) (cover.once i j d order inside)) placed are
