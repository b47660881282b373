-- No two pieces of a volume hold one block of a file.
use Rattle.convert_trees_laws.proofs.Imports.{◌≡◌, ◌≢◌, ◌≤◌, ◌<◌, ◌⊎◌, ℕ, ◌+◌, ◌-◌, ◌==◌, ◌&&◌, inl, inr, Bool, true, false, List, [], ◌∷◌, ◌++◌, map, filter, get_or, Option, Some, None, refl, sym, ap, ◌∙◌, ⊎_elim, arith, AllPairs, IsDistinct, div_ceil, option_map_or, cases_lt, nat_tests, Contains-append_cases, Contains-get_or, from_filter, from_flat_map, from_map, Image, all_from_contains, RunFrom, Disk, block_from, is_tail, Options, Piece, Plan, Pieces, Tail as TailBlock, FileAt, file_blocks, file_tails, has_tail, is_file_inline, tails, HasPlan, HoldsBlock, HoldsUsed, IsKeptPiece, advanced, copied_pieces, tail_piece, WerePlaced, IsCopied, is_copied_piece, all_at, pairs_append, pairs_head, pairs_map, pairs_tail, kept_are_maximal, numbered, owned_once, owner_from, two_cases, in_piece}
use Rattle.std.specs.Prelude.{Contains, if◌then◌else◌}
use Rattle.convert_steps.specs.reiser_volume_files.declared.map.RunFrom.TheVariants.{Tail}
use Rattle.convert_steps.proofs.reiser_bitmap.MaximalRuns.{starts_ascend}
use Rattle.convert_steps.proofs.extent_pieces.Telling.{OwnedOnce}
use Rattle.convert_trees_laws.proofs.Apart.{all_files, by, cover, kept, made, all_tails, placed_distinct, rest, some_blocks, used}

no_block : (b : ℕ) → (let o : Option ℕ = None in o) ≡ Some b → ⊥
no_block b is = absurd (cc)

-- ---- pieces that are tails

-- a block of a file that lies in direct items, as a piece
pub record IsTailOf (inline : Bool) (files : List FileAt) (p : Piece) : Type 0 where
  pub file : FileAt
  pub among : Contains files file
  pub at : ℕ
  pub tail : has_tail file at ≡ true
  pub stays : is_file_inline inline file ≡ false
  pub is : tail_piece (record { inode = file.inode; at = at }) ≡ p

abbrev tail_at : FileAt → ℕ → TailBlock
tail_at f k = record { inode = f.inode; at = k }

is_tail_of : (inline : Bool) (files : List FileAt) (p : Piece) → Contains (map tail_piece (tails inline files)) p → IsTailOf inline files p
is_tail_of inline files p h =
    let mapped = from_map tail_piece (tails inline files) p h in
    let from = from_flat_map (file_tails inline) files mapped.0 mapped.1 in
    go mapped.0 mapped.2 from.0 from.1 (is_file_inline inline from.0) refl from.2
  where
    go : (t : TailBlock) → tail_piece t ≡ p → (f : FileAt) → Contains files f → (b : Bool) → is_file_inline inline f ≡ b
        → Contains (if b then [] else map (λ k. record { inode = f.inode; at = k }) (filter (has_tail f) (file_blocks f))) t → IsTailOf inline files p
    go t is f among true stays h = absurd (omega (arith, h.1))
    go t is f among false stays h =
        let one = from_map (tail_at f) (filter (has_tail f) (file_blocks f)) t h in
        let passes = from_filter (has_tail f) (file_blocks f) one.0 one.1 in
        record { file = f; among = among; at = one.0; tail = passes.1; stays = stays; is = ap tail_piece one.2 ∙ is }

tails_differ : (inline : Bool) (files : List FileAt) → AllPairs (λ f g. f.inode ≢ g.inode) files → AllPairs (λ t u. t.inode ≡ u.inode → t.at ≡ u.at → ⊥) (tails inline files)
tails_differ inline [] apart = λ i j d order inside. absurd (omega (arith, inside))
tails_differ inline (f ∷ files) apart =
    pairs_append (λ t u. t.inode ≡ u.inode → t.at ≡ u.at → ⊥) (file_tails inline f) (tails inline files) (own (is_file_inline inline f)) (tails_differ inline files (pairs_tail (λ g h. g.inode ≢ h.inode) f files apart))
    (λ t in_t. all_from_contains (λ u. t.inode ≡ u.inode → t.at ≡ u.at → ⊥) (tails inline files) (λ u in_u same at.
    let from = from_flat_map (file_tails inline) files u in_u in
    let here = of_file f t in_t in
    let there = of_file from.0 u from.2 in
    all_at (λ g. f.inode ≢ g.inode) files from.0 (pairs_head (λ g h. g.inode ≢ h.inode) f files apart) from.1 (sym here ∙ (same ∙ there))))
  where
    of_file : (g : FileAt) (t : TailBlock) → Contains (file_tails inline g) t → t.inode ≡ g.inode
    of_file g t h = by_test (is_file_inline inline g) h
      where
        by_test : (b : Bool) → Contains (if b then [] else map (λ k. record { inode = g.inode; at = k }) (filter (has_tail g) (file_blocks g))) t → t.inode ≡ g.inode
        by_test true h = absurd (omega (arith, h.1))
        by_test false h = let one = from_map (tail_at g) (filter (has_tail g) (file_blocks g)) t h in sym (ap (λ (u : TailBlock). u.inode) one.2)

    own : (b : Bool) → AllPairs {X = TailBlock} (λ t u. t.inode ≡ u.inode → t.at ≡ u.at → ⊥) (if b then [] else map (λ k. record { inode = f.inode; at = k }) (filter (has_tail f) (file_blocks f)))
    own true = λ i j d order inside. absurd (omega (arith, inside))
    own false =
        pairs_map (λ t u. t.inode ≡ u.inode → t.at ≡ u.at → ⊥) (tail_at f) (filter (has_tail f) (file_blocks f))
        (λ i j d order inside same at. let less = starts_ascend (has_tail f) 0 (div_ceil f.size 4096) i j d order inside in omega (arith, less, at))

-- ---- the pieces of a volume with a plan

-- a block of a file lies where the piece says
pub record Lies (files : List FileAt) (p : Piece) (i k j : ℕ) : Type 0 where
  pub file : FileAt
  pub among : Contains files file
  pub inode : file.inode ≡ i
  pub lies : block_from file.items file.size (k + j) ≡ Some (in_piece p j)

-- two pieces hold no block of one file
abbrev pub Disjoint : Piece → Piece → Type 0
Disjoint p q = (i k l : ℕ) → p.owner ≡ Some (i, k) → q.owner ≡ Some (i, l) → (k + p.count ≤ l) ⊎ (l + q.count ≤ k)

tail_lies : (from : Option RunFrom) → is_tail from ≡ true → from ≡ Some Tail
tail_lies None is = absurd (cc)
tail_lies (Some (Disk b)) is = absurd (cc)
tail_lies (Some Tail) is = refl

pair_is : (a b c d : ℕ) → (let o : Option (ℕ × ℕ) = Some (a, b) in o) ≡ Some (c, d) → (a ≡ c) × (b ≡ d)
pair_is a b c d is = (ap (λ (o : Option (ℕ × ℕ)). option_map_or (λ x. x.0) o 0) is, ap (λ (o : Option (ℕ × ℕ)). option_map_or (λ x. x.1) o 0) is)

same_run : (a b : RunFrom) → (let o : Option RunFrom = Some a in o) ≡ Some b → a ≡ b
same_run a b is = cc

same_disk : (a b : ℕ) → Disk a ≡ Disk b → a ≡ b
same_disk a b is = cc

not_tail : (b : ℕ) → Disk b ≡ Tail → ⊥
not_tail b is = absurd (cc)

module _ (image : Image) (found : Pieces) (o : Options) (plan : Plan) (has_plan : HasPlan image found o plan) where
  abbrev all : List Piece
  all = kept image found o plan has_plan ++ rest image found o plan has_plan

  abbrev the_files : List FileAt
  the_files = all_files image found o plan has_plan

  pub once : OwnedOnce the_files
  once = let at = numbered image has_plan.keys has_plan.sorted in owned_once image has_plan.sorted.accepted has_plan.keys has_plan.sorted.are_keys at.0 at.1

  kept_from : (p : Piece) → Contains (kept image found o plan has_plan) p → p.from ≡ None → ⊥
  kept_from p h none =
      let is : IsKeptPiece (used image found o plan has_plan) (by image found o plan has_plan) p = all_at (IsKeptPiece (used image found o plan has_plan) (by image found o plan has_plan)) (kept image found o plan has_plan) p (kept_are_maximal (used image found o plan has_plan) (by image found o plan has_plan)).each h in
      no_block p.place (sym none ∙ is.stays)

  copied_from : (p : Piece) → Contains (copied_pieces (used image found o plan has_plan) (by image found o plan has_plan)) p → p.from ≡ None → ⊥
  copied_from p h none =
      let of : IsCopied (used image found o plan has_plan) (by image found o plan has_plan) p = is_copied_piece (used image found o plan has_plan) (by image found o plan has_plan) p h in
      no_block of.block (sym none ∙ ap (λ (q : Piece). q.from) of.is)

  -- a piece that holds no block of the volume is a tail
  pub tail_there : (p : Piece) → Contains all p → p.from ≡ None → IsTailOf o.inline the_files p
  tail_there p h none =
      ⊎_elim (λ here. absurd (kept_from p here none))
      (λ later. ⊎_elim (λ here. absurd (copied_from p here none)) (λ last. is_tail_of o.inline the_files p last)
      (Contains-append_cases (copied_pieces (used image found o plan has_plan) (by image found o plan has_plan)) (made image found o plan has_plan) p later))
      (Contains-append_cases (kept image found o plan has_plan) (rest image found o plan has_plan) p h)

  -- each block of an owned piece is a block of the file
  pub piece_lies : (p : Piece) → Contains all p → (i k j : ℕ) → p.owner ≡ Some (i, k) → j < p.count → Lies the_files p i k j
  piece_lies p h i k j owned inside = by_from p.from refl
    where
      by_from : (x : Option ℕ) → p.from ≡ x → Lies the_files p i k j
      by_from None is =
          let t = tail_there p h is in
          let one : 1 ≡ p.count = ap (λ (q : Piece). q.count) t.is in
          let first : j ≡ 0 = omega (arith, one, inside) in
          let pair = pair_is t.file.inode t.at i k (ap (λ (q : Piece). q.owner) t.is ∙ owned) in
          let at : k + j ≡ t.at = let same = pair.1 in omega (arith, first, same) in
          record {
            file = t.file;
            among = t.among;
            inode = pair.0;
            lies = ap (block_from t.file.items t.file.size) at ∙ (tail_lies (block_from t.file.items t.file.size t.at) t.tail ∙ ap (λ (x : Option ℕ). let r : Option RunFrom = Some (option_map_or (λ b. Disk (b + j)) x Tail) in r) (sym is));
          }
      by_from (Some first) is =
          let holds : HoldsUsed (used image found o plan has_plan) (by image found o plan has_plan) p = all_at (HoldsUsed (used image found o plan has_plan) (by image found o plan has_plan)) all p (cover image found o plan has_plan).each h in
          let there = holds.owners first (first + j) is (omega arith) (omega (arith, inside)) in
          let back : first + j - first ≡ j = omega arith in
          let told : by image found o plan has_plan (first + j) ≡ Some (i, k + j) = there ∙ (ap (λ (n : ℕ). advanced p.owner n) back ∙ ap (λ (w : Option (ℕ × ℕ)). advanced w j) owned) in
          let from = owner_from the_files (first + j) i (k + j) told in
          record {
            file = from.0;
            among = from.1;
            inode = from.3;
            lies = from.2 ∙ ap (λ (x : Option ℕ). let r : Option RunFrom = Some (option_map_or (λ b. Disk (b + j)) x Tail) in r) (sym is);
          }

  -- one file has an inode
  pub one_file : (f g : FileAt) → Contains the_files f → Contains the_files g → f.inode ≡ g.inode → f ≡ g
  one_file f g in_f in_g same =
      ⊎_elim (λ is. is) (λ apart. ⊎_elim (λ one. absurd (one same)) (λ other. absurd (other (sym same))) apart) (two_cases (λ a b. a.inode ≢ b.inode) the_files f g once.inodes in_f in_g)

  tails_apart : AllPairs (λ p q. p.from ≡ None → q.from ≡ None → p.owner ≡ q.owner → ⊥) all
  tails_apart =
      pairs_append (λ p q. p.from ≡ None → q.from ≡ None → p.owner ≡ q.owner → ⊥) (kept image found o plan has_plan) (rest image found o plan has_plan)
      (λ i j d order inside none other. absurd (kept_from (get_or (kept image found o plan has_plan) j d) (Contains-get_or (kept image found o plan has_plan) j d inside) other))
      (pairs_append (λ p q. p.from ≡ None → q.from ≡ None → p.owner ≡ q.owner → ⊥) copied (made image found o plan has_plan)
      (λ i j d order inside none other. absurd (copied_from (get_or copied j d) (Contains-get_or copied j d inside) other))
      (pairs_map (λ p q. p.from ≡ None → q.from ≡ None → p.owner ≡ q.owner → ⊥) tail_piece (all_tails image found o plan has_plan)
      (λ i j d order inside none other same.
      let pair = pair_is (get_or (all_tails image found o plan has_plan) i d).inode (get_or (all_tails image found o plan has_plan) i d).at (get_or (all_tails image found o plan has_plan) j d).inode (get_or (all_tails image found o plan has_plan) j d).at same in
      tails_differ o.inline the_files once.inodes i j d order inside pair.0 pair.1))
      (λ p in_p. all_from_contains (λ q. p.from ≡ None → q.from ≡ None → p.owner ≡ q.owner → ⊥) (made image found o plan has_plan) (λ q in_q none. absurd (copied_from p in_p none))))
      (λ p in_p. all_from_contains (λ q. p.from ≡ None → q.from ≡ None → p.owner ≡ q.owner → ⊥) (rest image found o plan has_plan) (λ q in_q none. absurd (kept_from p in_p none)))
    where
      copied : List Piece
      copied = copied_pieces (used image found o plan has_plan) (by image found o plan has_plan)

  -- two pieces with one block of a file are one
  meet : (p q : Piece) → Contains all p → Contains all q → ((b : ℕ) → HoldsBlock b p → HoldsBlock b q → ⊥) → (p.from ≡ None → q.from ≡ None → p.owner ≡ q.owner → ⊥)
      → (i k l u v : ℕ) → p.owner ≡ Some (i, k) → q.owner ≡ Some (i, l) → u < p.count → v < q.count → k + u ≡ l + v → ⊥
  meet p q in_p in_q blocks tail i k l u v own_p own_q in_u in_v same =
      let one = piece_lies p in_p i k u own_p in_u in
      let other = piece_lies q in_q i l v own_q in_v in
      let file : one.file ≡ other.file = one_file one.file other.file one.among other.among (one.inode ∙ sym other.inode) in
      let lies : in_piece p u ≡ in_piece q v =
      same_run (in_piece p u) (in_piece q v) (sym one.lies ∙ (ap (block_from one.file.items one.file.size) same ∙ (ap (λ (f : FileAt). block_from f.items f.size (l + v)) file ∙ other.lies))) in
      by_from p.from q.from refl refl lies
    where
      by_from : (x y : Option ℕ) → p.from ≡ x → q.from ≡ y → option_map_or (λ b. Disk (b + u)) p.from Tail ≡ option_map_or (λ b. Disk (b + v)) q.from Tail → ⊥
      by_from (Some a) (Some b) is_p is_q lies =
          let at : a + u ≡ b + v = same_disk (a + u) (b + v) (sym (ap (λ (x : Option ℕ). option_map_or (λ c. Disk (c + u)) x Tail) is_p) ∙ (lies ∙ ap (λ (x : Option ℕ). option_map_or (λ c. Disk (c + v)) x Tail) is_q)) in
          blocks (a + u) (a, is_p, omega arith, omega (arith, in_u)) (b, is_q, omega (arith, at), omega (arith, at, in_v))
      by_from (Some a) None is_p is_q lies = not_tail (a + u) (sym (ap (λ (x : Option ℕ). option_map_or (λ c. Disk (c + u)) x Tail) is_p) ∙ (lies ∙ ap (λ (x : Option ℕ). option_map_or (λ c. Disk (c + v)) x Tail) is_q))
      by_from None (Some b) is_p is_q lies = not_tail (b + v) (sym (sym (ap (λ (x : Option ℕ). option_map_or (λ c. Disk (c + u)) x Tail) is_p) ∙ (lies ∙ ap (λ (x : Option ℕ). option_map_or (λ c. Disk (c + v)) x Tail) is_q)))
      by_from None None is_p is_q lies =
          let ones_p : 1 ≡ p.count = ap (λ (r : Piece). r.count) (tail_there p in_p is_p).is in
          let ones_q : 1 ≡ q.count = ap (λ (r : Piece). r.count) (tail_there q in_q is_q).is in
          let at : k ≡ l = omega (arith, ones_p, ones_q, in_u, in_v, same) in
          tail is_p is_q (own_p ∙ (ap (λ (n : ℕ). let w : Option (ℕ × ℕ) = Some (i, n) in w) at ∙ sym own_q))

  disjoint : (p q : Piece) → Contains all p → Contains all q → 1 ≤ p.count → 1 ≤ q.count → ((b : ℕ) → HoldsBlock b p → HoldsBlock b q → ⊥) → (p.from ≡ None → q.from ≡ None → p.owner ≡ q.owner → ⊥) → Disjoint p q
  disjoint p q in_p in_q some other blocks tail = λ i k l own_p own_q.
      ⊎_elim
      (λ (low : k < l + q.count). ⊎_elim
      (λ (high : l < k + p.count). ⊎_elim
      (λ (first : k < l). absurd (meet p q in_p in_q blocks tail i k l (l - k) 0 own_p own_q (omega (arith, high, first)) (omega (arith, other)) (omega (arith, first))))
      (λ (second : l ≤ k). absurd (meet p q in_p in_q blocks tail i k l 0 (k - l) own_p own_q (omega (arith, some)) (omega (arith, low, second)) (omega (arith, second))))
      (cases_lt k l))
      (λ (apart : k + p.count ≤ l). inl apart)
      (cases_lt l (k + p.count)))
      (λ (apart : l + q.count ≤ k). inr apart)
      (cases_lt k (l + q.count))

  pub all_disjoint : AllPairs Disjoint all
  all_disjoint = λ i j d order inside.
      disjoint (get_or all i d) (get_or all j d) (Contains-get_or all i d (omega (arith, order, inside))) (Contains-get_or all j d inside)
      (some_blocks image found o plan has_plan i d (omega (arith, order, inside))) (some_blocks image found o plan has_plan j d inside) ((cover image found o plan has_plan).once i j d order inside) (tails_apart i j d order inside)

-- ---- pieces at their places

abbrev pub same_start : Option (ℕ × ℕ) → Option (ℕ × ℕ) → Bool
same_start None w = false
same_start (Some a) None = false
same_start (Some a) (Some b) = (a.0 == b.0) && (a.1 == b.1)

-- two pieces begin at one block of a file
abbrev pub starts : Piece → Piece → Bool
starts p q = same_start p.owner q.owner

starts_flips : (p q : Piece) → starts p q ≡ starts q p
starts_flips p q = by_owner p.owner q.owner
  where
    turned : (a b c d : ℕ) → ((a == b) && (c == d)) ≡ ((b == a) && (d == c))
    turned a b c d = grind (arith, nat_tests)

    by_owner : (x y : Option (ℕ × ℕ)) → same_start x y ≡ same_start y x
    by_owner None None = refl
    by_owner None (Some b) = refl
    by_owner (Some a) None = refl
    by_owner (Some a) (Some b) = turned a.0 b.0 a.1 b.1

no_start : (p q : Piece) → 1 ≤ p.count → 1 ≤ q.count → Disjoint p q → starts p q ≡ false
no_start p q some other apart = by_owner p.owner q.owner refl refl
  where
    both : (a b c d : ℕ) → ((a == b) && (c == d)) ≡ true → (a ≡ b) × (c ≡ d)
    both a b c d is = (grind (arith, nat_tests), grind (arith, nat_tests))

    by_owner : (x y : Option (ℕ × ℕ)) → p.owner ≡ x → q.owner ≡ y → same_start x y ≡ false
    by_owner None y is_p is_q = refl
    by_owner (Some a) None is_p is_q = refl
    by_owner (Some a) (Some b) is_p is_q = test ((a.0 == b.0) && (a.1 == b.1)) refl
      where
        test : (t : Bool) → ((a.0 == b.0) && (a.1 == b.1)) ≡ t → t ≡ false
        test false is = refl
        test true is =
            let same = both a.0 b.0 a.1 b.1 is in
            let at = same.1 in
            ⊎_elim (λ low. absurd (omega (arith, low, at, some))) (λ high. absurd (omega (arith, high, at, other)))
            (apart a.0 a.1 b.1 is_p (is_q ∙ ap (λ (n : ℕ). let w : Option (ℕ × ℕ) = Some (n, b.1) in w) (sym same.0)))

pub starts_none : (image : Image) (found : Pieces) (o : Options) (plan : Plan) (has_plan : HasPlan image found o plan) (placed : List Piece) → WerePlaced found.kept plan.data_ found.items.items placed → IsDistinct starts placed
starts_none image found o plan has_plan placed are =
    placed_distinct image found o plan has_plan starts starts_flips (λ p q b. refl) (λ p q b. refl)
    (λ i j d order inside. no_start (get_or (kept image found o plan has_plan ++ rest image found o plan has_plan) i d) (get_or (kept image found o plan has_plan ++ rest image found o plan has_plan) j d) (some_blocks image found o plan has_plan i d (omega (arith, order, inside))) (some_blocks image found o plan has_plan j d inside) (all_disjoint image found o plan has_plan i j d order inside)) placed are
