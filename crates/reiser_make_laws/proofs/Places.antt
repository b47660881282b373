-- No two blocks of a sample go to one place, so each block has what the layout gives.
use Rattle.reiser_make_laws.proofs.Imports.{◌≡◌, ◌≢◌, ℕ, zero, suc, ◌+◌, ◌-◌, ◌*◌, ◌≤◌, ◌<◌, List, [], ◌∷◌, ◌++◌, length, map, take, get_or, sym, ◌∙◌, ap, subst, arith, slice_index_or, append_assoc, slice_set, range_with_len, flat_map, sum_by, take-length, get_or-set_same, take_more, sum_by-append, BITS_IN_BLOCK, Image, block_at, needed, total, root_level, level_nodes, nodes_below, Placed, laid_over, volume_blocks, system_part, system_row, system_placed, data_part, data_of_name, data_of_content, data_placed, leaf_part, leaf_placed, inner_part, level_part, inner_placed, bitmap_part, bitmap_placed, leaves, place, bitmap_blocks, Shape, stored_before, stored_in, stored_blocks, stored_of, SampleEntry, Name, Symlink, File, root_low, SamplesHoldTheirBlocks}
use Rattle.reiser_make_laws.proofs.Blocks.{Away, away-append, away_row, later_keeps, length-set}

-- the blocks of a list go to places of their own
abbrev pub AreApart : List Placed → Type 0
AreApart [] = Unit {0}
AreApart (p ∷ ps) = Away p.0 ps × AreApart ps

-- each block of the second list is away from the first
abbrev AreAway : List Placed → List Placed → Type 0
AreAway [] qs = Unit {0}
AreAway (p ∷ ps) qs = Away p.0 qs × AreAway ps qs

apart-append : (ps qs : List Placed) → AreApart ps → AreApart qs → AreAway ps qs → AreApart (ps ++ qs)
apart-append [] qs first second away = second
apart-append (p ∷ ps) qs first second away = (away-append p.0 ps qs first.0 away.0, apart-append ps qs first.1 second away.1)

-- each block of a list of blocks in places of their own is where the list puts it
laid_gives : (ps : List Placed) (image : Image) (k : ℕ) (d p : Placed) → AreApart ps → k < length ps → slice_index_or ps k d ≡ p → p.0 < length image → block_at (laid_over ps image) p.0 ≡ p.1
laid_gives [] image k d p apart lt is inside = absurd (omega (arith, lt))
laid_gives (q ∷ qs) image zero d p apart lt is inside =
    subst (λ (r : Placed). block_at (laid_over qs (slice_set image q.0 q.1)) r.0 ≡ r.1) is
    (later_keeps qs (slice_set image q.0 q.1) q.0 apart.0 ∙ get_or-set_same image q.0 q.1 [] (subst (λ (r : Placed). r.0 < length image) (sym is) inside))
laid_gives (q ∷ qs) image (suc k) d p apart lt is inside =
    laid_gives qs (slice_set image q.0 q.1) k d p apart.1 (omega (arith, lt)) is (omega (arith, inside, length-set image q.0 q.1))

-- blocks that go to places of rising numbers, from one number to another
abbrev Climbs : ℕ → ℕ → List Placed → Type 0
Climbs low high [] = low ≤ high
Climbs low high (p ∷ ps) = (j : ℕ) × (low ≤ j) × (p.0 ≡ place j) × Climbs (j + 1) high ps

climbs_later : (low lower high : ℕ) (ps : List Placed) → lower ≤ low → Climbs low high ps → Climbs lower high ps
climbs_later low lower high [] under climbs = omega (arith, under, climbs)
climbs_later low lower high (p ∷ ps) under climbs = (climbs.0, omega (arith, under, climbs.1), climbs.2, climbs.3)

climbs-append : (low mid high : ℕ) (ps qs : List Placed) → Climbs low mid ps → Climbs mid high qs → Climbs low high (ps ++ qs)
climbs-append low mid high [] qs first second = climbs_later mid low high qs first second
climbs-append low mid high (p ∷ ps) qs first second = (first.0, first.1, first.2, climbs-append (first.0 + 1) mid high ps qs first.3 second)

climbs_row : (f : ℕ → Placed) (a n first : ℕ) → ((k : ℕ) → a ≤ k → k < a + n → (f k).0 ≡ place (first + (k - a))) → Climbs first (first + n) (map f (range_with_len a n))
climbs_row f a zero first each = omega arith
climbs_row f a (suc n) first each =
    let here : (f a).0 ≡ place first = each a (omega arith) (omega arith) ∙ ap place (let same : first + (a - a) ≡ first = omega arith in same) in
    let end : first + 1 + n ≡ first + suc n = omega arith in (
      first,
      omega arith,
      here,
      subst (λ (h : ℕ). Climbs (first + 1) h (map f (range_with_len (a + 1) n))) end
          (climbs_row f (a + 1) n (first + 1)
          (λ k low high. each k (omega (arith, low)) (omega (arith, high)) ∙ ap place (let same : first + (k - a) ≡ first + 1 + (k - (a + 1)) = omega (arith, low) in same))),
    )

climbs_rows : (f : ℕ → List Placed) (at : ℕ → ℕ) (a n : ℕ) → ((k : ℕ) → a ≤ k → k < a + n → Climbs (at k) (at (k + 1)) (f k)) → Climbs (at a) (at (a + n)) (flat_map f (range_with_len a n))
climbs_rows f at a zero each = let same : a + 0 ≡ a = omega arith in omega (arith, ap at same)
climbs_rows f at a (suc n) each =
    let end : a + 1 + n ≡ a + suc n = omega arith in
    climbs-append (at a) (at (a + 1)) (at (a + suc n)) (f a) (flat_map f (range_with_len (a + 1) n)) (each a (omega arith) (omega arith))
    (subst (λ (h : ℕ). Climbs (at (a + 1)) (at h) (flat_map f (range_with_len (a + 1) n))) end
    (climbs_rows f at (a + 1) n (λ k low high. each k (omega (arith, low)) (omega (arith, high)))))

place_rises : (i j : ℕ) → i < j → place i ≢ place j
unfolding place
place_rises i j lt = λ same. omega (arith, lt, same)

pub place_behind : (b j : ℕ) → b < 8211 → b ≢ place j
unfolding place
place_behind b j low = λ same. omega (arith, low, same)

pub place_no_map : (j k : ℕ) → place j ≢ BITS_IN_BLOCK * k
unfolding place
place_no_map j k = λ same. omega (arith, same)

climbs_away : (i low high : ℕ) (ps : List Placed) → i < low → Climbs low high ps → Away (place i) ps
climbs_away i low high [] lt climbs = tt
climbs_away i low high (p ∷ ps) lt climbs =
    ((λ same. place_rises i climbs.0 (omega (arith, lt, climbs.1)) (same ∙ climbs.2)), climbs_away i (climbs.0 + 1) high ps (omega (arith, lt, climbs.1)) climbs.3)

climbs_apart : (low high : ℕ) (ps : List Placed) → Climbs low high ps → AreApart ps
climbs_apart low high [] climbs = tt
climbs_apart low high (p ∷ ps) climbs =
    (subst (λ (b : ℕ). Away b ps) (sym climbs.2) (climbs_away climbs.0 (climbs.0 + 1) high ps (omega arith) climbs.3), climbs_apart (climbs.0 + 1) high ps climbs.3)

climbs_behind : (b low high : ℕ) (ps : List Placed) → b < 8211 → Climbs low high ps → Away b ps
climbs_behind b low high [] early climbs = tt
climbs_behind b low high (p ∷ ps) early climbs = ((λ same. place_behind b climbs.0 early (same ∙ climbs.2)), climbs_behind b (climbs.0 + 1) high ps early climbs.3)

climbs_no_map : (low high needed blocks : ℕ) (ps : List Placed) → Climbs low high ps → AreAway ps (bitmap_part needed blocks)
climbs_no_map low high needed blocks [] climbs = tt
climbs_no_map low high needed blocks (p ∷ ps) climbs = (
  away_row p.0 (bitmap_placed needed blocks) 1 (bitmap_blocks blocks - 1) (λ k above below. λ same. place_no_map climbs.0 k (sym climbs.2 ∙ same)),
  climbs_no_map (climbs.0 + 1) high needed blocks ps climbs.3,
)

-- the data, name by name
data_climbs : (s : Shape) (i : ℕ) (content : SampleEntry) → Climbs (stored_before s.names i) (stored_before s.names i + stored_blocks content) (data_of_content s i content)
data_climbs s i Name = omega arith
data_climbs s i Symlink = omega arith
data_climbs s i (File whole rest sparse) =
    climbs_row (data_placed s i sparse) 0 (stored_of whole sparse) (stored_before s.names i)
    (λ k low high. ap (λ n. place (stored_before s.names i + n)) (let same : k ≡ k - 0 = omega arith in same))

pub stored_next : (names : List SampleEntry) (i : ℕ) (d : SampleEntry) → i < length names → stored_before names i + stored_blocks (get_or names i d) ≡ stored_before names (i + 1)
stored_next names i d lt =
    sym (ap (sum_by stored_blocks) (take_more names i d lt) ∙ sum_by-append stored_blocks (take i names) (get_or names i d ∷ []) ∙ omega arith)

pub stored_end : (names : List SampleEntry) → stored_before names (0 + length names) ≡ stored_in names
stored_end names = ap (sum_by stored_blocks) (ap (λ n. take n names) (let same : 0 + length names ≡ length names = omega arith in same) ∙ take-length names)

data_all : (s : Shape) → Climbs 0 (stored_in s.names) (data_part s)
data_all s =
    subst (λ (h : ℕ). Climbs 0 h (data_part s)) (stored_end s.names)
    (climbs_rows (data_of_name s) (stored_before s.names) 0 (length s.names)
    (λ i low high. subst (λ (h : ℕ). Climbs (stored_before s.names i) h (data_of_name s i)) (stored_next s.names i Name (omega (arith, high))) (data_climbs s i (slice_index_or s.names i Name))))

pub below_next : (leaves k : ℕ) → 1 ≤ k → nodes_below leaves (k + 1) ≡ nodes_below leaves k + level_nodes leaves k
below_next leaves zero low = absurd (omega (arith, low))
below_next leaves (suc k) low = ap (nodes_below leaves) (let next : suc k + 1 ≡ suc (suc k) = omega arith in next)

module _ (s : Shape) where
  abbrev stored : ℕ
  stored = stored_in s.names

  abbrev count : ℕ
  count = length (leaves s)

  leaves_climb : Climbs stored (stored + count) (leaf_part s)
  leaves_climb =
      climbs_row (leaf_placed s) 0 count stored
      (λ m low high. ap place (let same : stored + nodes_below count 1 + m ≡ stored + (m - 0) = omega arith in same))

  -- the nodes of a level
  level_climbs : (below : ℕ) → 1 ≤ below → Climbs (stored + nodes_below count (below + 1)) (stored + nodes_below count (below + 2)) (level_part s below)
  level_climbs below low =
      let next : below + 1 + 1 ≡ below + 2 = omega arith in
      let end : stored + nodes_below count (below + 1) + level_nodes count (below + 1) ≡ stored + nodes_below count (below + 2) =
      omega (arith, below_next count (below + 1) (omega arith), ap (nodes_below count) next) in
      subst (λ (h : ℕ). Climbs (stored + nodes_below count (below + 1)) h (level_part s below)) end
      (climbs_row (inner_placed s below) 0 (level_nodes count (below + 1)) (stored + nodes_below count (below + 1))
      (λ m over under. ap place (let same : stored + nodes_below count (below + 1) + m ≡ stored + nodes_below count (below + 1) + (m - 0) = omega arith in same)))

  inner_climb : Climbs (stored + count) (total s) (inner_part s)
  inner_climb =
      let root : ℕ = root_level count in
      let first : stored + nodes_below count (1 + 1) ≡ stored + count = omega (arith, below_next count 1 (omega arith)) in
      let last : 1 + (root - 1) + 1 ≡ root + 1 = omega (arith, root_low count) in
      let end : stored + nodes_below count (1 + (root - 1) + 1) ≡ total s = ap (λ n. stored + nodes_below count n) last in
      subst (λ (h : ℕ). Climbs (stored + count) h (inner_part s)) end
      (subst (λ (l : ℕ). Climbs l (stored + nodes_below count (1 + (root - 1) + 1)) (inner_part s)) first
      (climbs_rows (level_part s) (λ k. stored + nodes_below count (k + 1)) 1 (root - 1)
      (λ below low high. subst (λ (h : ℕ). Climbs (stored + nodes_below count (below + 1)) (stored + nodes_below count h) (level_part s below)) (let next : below + 2 ≡ below + 1 + 1 = omega arith in next) (level_climbs below low))))

  abbrev middle : List Placed
  middle = data_part s ++ (leaf_part s ++ inner_part s)

  middle_climbs : Climbs 0 (total s) middle
  middle_climbs =
      climbs-append 0 stored (total s) (data_part s) (leaf_part s ++ inner_part s) (data_all s)
      (climbs-append stored (stored + count) (total s) (leaf_part s) (inner_part s) leaves_climb inner_climb)

-- rows that rise
rising_apart : (f : ℕ → Placed) (a n : ℕ) → ((i j : ℕ) → i < j → (f i).0 < (f j).0) → AreApart (map f (range_with_len a n))
rising_apart f a zero rises = tt
rising_apart f a (suc n) rises =
    (away_row (f a).0 f (a + 1) n (λ k low high. λ same. omega (arith, rises a k (omega (arith, low)), same)), rising_apart f (a + 1) n rises)

row_away : (f : ℕ → Placed) (a n : ℕ) (qs : List Placed) → ((k : ℕ) → a ≤ k → k < a + n → Away (f k).0 qs) → AreAway (map f (range_with_len a n)) qs
row_away f a zero qs each = tt
row_away f a (suc n) qs each = (each a (omega arith) (omega arith), row_away f (a + 1) n qs (λ k low high. each k (omega (arith, low)) (omega (arith, high))))

system_no_map : (s : Shape) (needed blocks : ℕ) (b : ℕ) → b < 8211 → Away b (bitmap_part needed blocks)
system_no_map s needed blocks b low = away_row b (bitmap_placed needed blocks) 1 (bitmap_blocks blocks - 1) (λ k above below. λ same. omega (arith, low, above, same))

all_apart : (s : Shape) (blocks : ℕ) → AreApart (system_part s blocks ++ (middle s ++ bitmap_part (needed s) blocks))
unfolding system_row
all_apart s blocks =
    let maps : List Placed = bitmap_part (needed s) blocks in
    let maps_apart : AreApart maps = rising_apart (bitmap_placed (needed s) blocks) 1 (bitmap_blocks blocks - 1) (λ i j lt. omega (arith, lt)) in
    let climbs : Climbs 0 (total s) (middle s) = middle_climbs s in
    apart-append (system_part s blocks) (middle s ++ maps) (rising_apart (system_placed s blocks) 0 8211 (λ i j lt. lt))
    (apart-append (middle s) maps (climbs_apart 0 (total s) (middle s) climbs) maps_apart (climbs_no_map 0 (total s) (needed s) blocks (middle s) climbs))
    (row_away (system_placed s blocks) 0 8211 (middle s ++ maps)
    (λ b low high. away-append b (middle s) maps (climbs_behind b 0 (total s) (middle s) (omega (arith, high)) climbs) (system_no_map s (needed s) blocks b (omega (arith, high)))))

regrouped : (s : Shape) (blocks : ℕ) → system_part s blocks ++ (middle s ++ bitmap_part (needed s) blocks) ≡ volume_blocks s blocks
unfolding volume_blocks
regrouped s blocks =
    let maps : List Placed = bitmap_part (needed s) blocks in
    ap (λ z. system_part s blocks ++ z)
    (append_assoc (data_part s) (leaf_part s ++ inner_part s) maps ∙ ap (λ z. data_part s ++ z) (append_assoc (leaf_part s) (inner_part s) maps))

pub holds_blocks : SamplesHoldTheirBlocks
holds_blocks s blocks image p held inside =
    laid_gives (volume_blocks s blocks) image held.0 p p (subst AreApart (regrouped s blocks) (all_apart s blocks)) held.1 held.2 inside
