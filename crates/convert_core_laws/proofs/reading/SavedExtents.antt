-- The extents of the saved image.
use Rattle.convert_core_laws.proofs.Imports.{◌≡◌, ◌⊎◌, ◌≤◌, ◌<◌, ℕ, zero, suc, ◌+◌, ◌-◌, ◌*◌, ◌/◌, ◌%◌, ◌^◌, inl, inr, ◌&&◌, ◌||◌, eqb, ltb, Bool, true, false, List, [], ◌∷◌, ◌++◌, map, Option, Some, None, refl, sym, ap, subst, ◌∙◌, ⊎_elim, arith, Contains, if◌then◌else◌, option_map, sum_by-cons, and_from, and_parts, both_ways, cases_Bool, eq-eqb, le-leb, leb-true, lt-ltb, ltb-true, ne_eqb, EXTENT_DATA, BtrRefusal, BadBtrfs, ExtentForm, at_unmapped, covered_after, covers, end_after, extent_refusals, extents_refusals, has_form, place_refusals, refusals_at, refused_unless, unmapped_in, FileExtentValue, Regular, disk_range_layout, file_extent_bytes, file_extent_head, file_extent_of, make_key, Key, DiskRange, file_extents_read_back, block_by_extent, content_block, TreeItem, place, bare_item, MapRange, extents_at, piece_bytes, source_block, regular_extent, contains_cases, contains_head, contains_tail, Piece}
use Rattle.btr_reader.specs.Image.{file_block}
use Rattle.convert_core_laws.proofs.reading.Chunks.{item_parts}

-- a piece that holds blocks of the volume, and whose addresses mean themselves
pub record IsSource (ranges : List MapRange) (p : Piece) : Type 0 where
  pub from : p.from ≡ Some (source_block p)
  pub some : 1 ≤ p.count
  pub above : 1 ≤ p.place
  pub small : p.place + p.count ≤ 2 ^ 29
  pub inside : source_block p + p.count ≤ 2 ^ 29
  pub mapped : (a : ℕ) → 4096 * p.place ≤ a → a < 4096 * (p.place + p.count) → place ranges a ≡ Some a

-- the block is one that the piece holds
abbrev pub Holds : Piece → ℕ → Type 0
Holds p b = (source_block p ≤ b) × (b < source_block p + p.count)

extent_fits : (place count : ℕ) → place + count ≤ 2 ^ 29 → file_extent_head.fits (regular_extent place count)
unfolding file_extent_head
extent_fits place count small = ((((((tt, omega arith), omega (arith, small)), omega arith), omega arith), omega arith), omega arith)

range_fits : (place count : ℕ) → place + count ≤ 2 ^ 29 → disk_range_layout.fits (record { disk_bytenr = 4096 * place; disk_num_bytes = 4096 * count; offset = 0; num_bytes = 4096 * count })
unfolding disk_range_layout
range_fits place count small = ((((tt, omega (arith, small)), omega (arith, small)), omega arith), omega (arith, small))

abbrev range_by : Piece → DiskRange
range_by p = record { disk_bytenr = 4096 * p.place; disk_num_bytes = 4096 * p.count; offset = 0; num_bytes = 4096 * p.count }

pub reads_extent : (p : Piece) (body : List ℕ) → p.place + p.count ≤ 2 ^ 29 → body ≡ file_extent_bytes (regular_extent p.place p.count) → file_extent_of body ≡ Some (regular_extent p.place p.count)
reads_extent p body small is = ap file_extent_of is ∙ file_extents_read_back (regular_extent p.place p.count) (extent_fits p.place p.count small) (range_fits p.place p.count small)

module _ (ranges : List MapRange) where
  -- ---- one extent

  no_hole : (p : Piece) → IsSource ranges p → eqb (4096 * p.place) 0 ≡ false
  no_hole p is = ne_eqb (4096 * p.place) 0 (λ e. let above = is.above in omega (arith, above, e))

  all_mapped : (n a : ℕ) → ((b : ℕ) → a ≤ b → b < a + 4096 * n → place ranges b ≡ Some b) → unmapped_in ranges n a ≡ []
  all_mapped zero a each = refl
  all_mapped (suc n) a each =
      ap (λ (o : Option ℕ). at_unmapped o a ++ unmapped_in ranges n (a + 4096)) (each a (omega arith) (omega arith))
      ∙ all_mapped n (a + 4096) (λ b low high. each b (omega (arith, low)) (omega (arith, high)))

  place_sound : (p : Piece) → IsSource ranges p → place_refusals ranges (Regular (range_by p)) ≡ []
  place_sound p is =
      let count : 4096 * p.count / 4096 ≡ p.count = omega arith in
      let start : 4096 * p.place + 0 ≡ 4096 * p.place = omega arith in
      ap (λ (b : Bool). if b then [] else unmapped_in ranges (4096 * p.count / 4096) (4096 * p.place + 0)) (no_hole p is)
      ∙ (ap (λ (n : ℕ). unmapped_in ranges n (4096 * p.place + 0)) count
      ∙ (ap (λ (a : ℕ). unmapped_in ranges p.count a) start
      ∙ all_mapped p.count (4096 * p.place) (λ b low high. is.mapped b low (omega (arith, high)))))

  six_hold : (a b c d e f g h : Bool) → a ≡ true → b ≡ true → c ≡ true → d ≡ false → e ≡ true → f ≡ true → g ≡ true → h ≡ true → (a && ((b && (c && (d || (e && (f && g))))) && h)) ≡ true
  six_hold a b c d e f g h i j k l m n o p = rw (i, j, k, l, m, n, o, p) refl

  form_sound : (end covered : ℕ) (p : Piece) → IsSource ranges p → end ≤ 4096 * source_block p → covered ≤ end → has_form end covered (4096 * source_block p) (Regular (range_by p)) ≡ true
  form_sound end covered p is low few =
      let inside = is.inside in
      six_hold _ _ _ _ _ _ _ _ (le-leb end (4096 * source_block p) low) (eq-eqb (4096 * source_block p % 4096) 0 (omega arith)) (eq-eqb (4096 * p.count % 4096) 0 (omega arith)) (no_hole p is)
      (eq-eqb (4096 * p.place % 4096) 0 (omega arith)) refl (le-leb (0 + 4096 * p.count) (4096 * p.count) (omega arith)) (total (eqb (4096 * p.place) 0) (no_hole p is) (omega (arith, inside, low, few)))
    where
      total : (b : Bool) → b ≡ false → covered + 4096 * p.count < 2 ^ 59 → ltb (covered + (if b then 0 else 4096 * p.count)) (2 ^ 59) ≡ true
      total true e h = absurd (cc e)
      total false e h = lt-ltb (covered + 4096 * p.count) (2 ^ 59) h

  extent_sound : (end covered leaf : ℕ) (p : Piece) → IsSource ranges p → end ≤ 4096 * source_block p → covered ≤ end → extent_refusals ranges end covered (4096 * source_block p) leaf (regular_extent p.place p.count) ≡ []
  extent_sound end covered leaf p is low few =
      ap (λ (b : Bool). refused_unless b (BadBtrfs leaf ExtentForm) ++ place_refusals ranges (Regular (range_by p))) (form_sound end covered p is low few) ∙ place_sound p is

  covered_more : (covered : ℕ) (p : Piece) → IsSource ranges p → covered + (if eqb (4096 * p.place) 0 then 0 else 4096 * p.count) ≡ covered + 4096 * p.count
  covered_more covered p is = ap (λ (b : Bool). covered + (if b then 0 else 4096 * p.count)) (no_hole p is)

  -- ---- all extents

  -- the pieces ascend by the blocks that they hold
  abbrev pub AreSources : ℕ → List Piece → Type 0
  AreSources low [] = Unit {0}
  AreSources low (p ∷ ps) = IsSource ranges p × (low ≤ source_block p) × AreSources (source_block p + p.count) ps

  -- each of them
  pub source_in : (low : ℕ) (ps : List Piece) → AreSources low ps → (p : Piece) → Contains ps p → IsSource ranges p
  source_in low [] sources p h = absurd (omega (arith, h.1))
  source_in low (q ∷ ps) sources p h = ⊎_elim (λ (same : q ≡ p). subst (IsSource ranges) same sources.0) (λ (later : Contains ps p). source_in (source_block q + q.count) ps sources.2 p later) (contains_cases p q ps h)

  -- together they hold no more blocks than there are
  sources_blocks : (low : ℕ) (ps : List Piece) → AreSources low ps → low ≤ 2 ^ 29 → 4096 * low + piece_bytes ps ≤ 2 ^ 41
  sources_blocks low [] sources few = omega (arith, few)
  sources_blocks low (p ∷ ps) sources few =
      let inside = sources.0.inside in
      let up = sources.1 in
      let rest = sources_blocks (source_block p + p.count) ps sources.2 inside in
      let all = sum_by-cons (λ (q : Piece). 4096 * q.count) p ps in
      omega (arith, inside, up, rest, all)

  pub sources_bytes : (low : ℕ) (ps : List Piece) → AreSources low ps → low ≤ 2 ^ 29 → piece_bytes ps ≤ 2 ^ 41
  sources_bytes low ps sources few = let all = sources_blocks low ps sources few in omega (arith, all)

  pub extents_sound : (ps : List Piece) (items : List TreeItem) (low covered : ℕ) → map bare_item items ≡ extents_at 257 source_block ps → AreSources low ps → covered ≤ 4096 * low → extents_refusals ranges (4096 * low) covered items ≡ []
  extents_sound [] [] low covered are sources few = refl
  extents_sound [] (i ∷ items) low covered are sources few = absurd (cc are)
  extents_sound (p ∷ ps) [] low covered are sources few = absurd (cc are)
  extents_sound (p ∷ ps) (i ∷ items) low covered are sources few =
      let parts = item_parts i items (make_key 257 EXTENT_DATA (4096 * source_block p), file_extent_bytes (regular_extent p.place p.count)) (extents_at 257 source_block ps) are in
      let is : IsSource ranges p = sources.0 in
      let small = is.small in
      let offset : i.key.offset ≡ 4096 * source_block p = ap (λ (k : Key). k.offset) parts.0 in
      let read : file_extent_of i.body ≡ Some (regular_extent p.place p.count) = reads_extent p i.body small parts.1 in
      let up = sources.1 in
      let here : extent_refusals ranges (4096 * low) covered (4096 * source_block p) i.leaf (regular_extent p.place p.count) ≡ [] = extent_sound (4096 * low) covered i.leaf p is (omega (arith, up)) few in
      let end : 4096 * source_block p + 4096 * p.count ≡ 4096 * (source_block p + p.count) = omega arith in
      let more : covered + 4096 * p.count ≤ 4096 * (source_block p + p.count) = omega (arith, few, up) in
      let rest : extents_refusals ranges (4096 * (source_block p + p.count)) (covered + 4096 * p.count) items ≡ [] = extents_sound ps items (source_block p + p.count) (covered + 4096 * p.count) parts.2 sources.2 more in
      ap (λ (o : Option FileExtentValue). refusals_at ranges (4096 * low) covered i o ++ extents_refusals ranges (end_after (4096 * low) i.key.offset o) (covered_after covered o) items) read
      ∙ (ap (λ (n : ℕ). extent_refusals ranges (4096 * low) covered n i.leaf (regular_extent p.place p.count) ++ extents_refusals ranges (n + 4096 * p.count) (covered + (if eqb (4096 * p.place) 0 then 0 else 4096 * p.count)) items) offset
      ∙ (ap (λ (rs : List BtrRefusal). rs ++ extents_refusals ranges (4096 * source_block p + 4096 * p.count) (covered + (if eqb (4096 * p.place) 0 then 0 else 4096 * p.count)) items) here
      ∙ (ap (λ (n : ℕ). extents_refusals ranges n (covered + (if eqb (4096 * p.place) 0 then 0 else 4096 * p.count)) items) end
      ∙ (ap (λ (n : ℕ). extents_refusals ranges (4096 * (source_block p + p.count)) n items) (covered_more covered p is) ∙ rest))))

  -- ---- the place of a block

  in_piece : (p : Piece) (b : ℕ) → Holds p b → covers (4096 * source_block p) (Regular (range_by p)) (4096 * b) ≡ true
  in_piece p b h =
      let low = h.0 in
      let high = h.1 in
      and_from _ _ (le-leb (4096 * source_block p) (4096 * b) (omega (arith, low))) (lt-ltb (4096 * b) (4096 * source_block p + 4096 * p.count) (omega (arith, high)))

  of_piece : (p : Piece) (b : ℕ) → covers (4096 * source_block p) (Regular (range_by p)) (4096 * b) ≡ true → Holds p b
  of_piece p b t =
      let parts = and_parts _ _ t in
      let low = leb-true (4096 * source_block p) (4096 * b) parts.0 in
      let high = ltb-true (4096 * b) (4096 * source_block p + 4096 * p.count) parts.1 in
      (omega (arith, low), omega (arith, high))

  -- where a block of a piece lies
  block_place : (p : Piece) (b : ℕ) → IsSource ranges p → Holds p b → content_block ranges (Regular (range_by p)) (b - 4096 * source_block p / 4096) ≡ Some (p.place + (b - source_block p))
  block_place p b is h =
      let low = h.0 in
      let high = h.1 in
      let first : 4096 * source_block p / 4096 ≡ source_block p = omega arith in
      let a : ℕ = 4096 * p.place + 0 + 4096 * (b - source_block p) in
      let at : a / 4096 ≡ p.place + (b - source_block p) = omega arith in
      ap (λ (n : ℕ). content_block ranges (Regular (range_by p)) (b - n)) first
      ∙ (ap (λ (t : Bool). if t then None else option_map (λ (x : ℕ). x / 4096) (place ranges a)) (no_hole p is)
      ∙ (ap (λ (o : Option ℕ). option_map (λ (x : ℕ). x / 4096) o) (is.mapped a (omega arith) (omega (arith, low, high)))
      ∙ ap (λ (n : ℕ). let o : Option ℕ = Some n in o) at))

  -- a piece among these has the block, and this is its place; or none has it
  pub record FoundIn (ps : List Piece) (b : ℕ) (found : Option ℕ) : Type 0 where
    pub piece : Piece
    pub among : Contains ps piece
    pub holds : Holds piece b
    pub is : found ≡ Some (piece.place + (b - source_block piece))

  -- where an extent from a byte on has the block, and else another place
  abbrev from_here : Piece → ℕ → ℕ → Option ℕ → Option ℕ
  from_here p b offset rest = if covers offset (Regular (range_by p)) (4096 * b) then content_block ranges (Regular (range_by p)) (b - offset / 4096) else rest

  pub place_of : (ps : List Piece) (items : List TreeItem) (low b : ℕ) → map bare_item items ≡ extents_at 257 source_block ps → AreSources low ps
      → FoundIn ps b (file_block ranges items b) ⊎ ((file_block ranges items b ≡ None) × ((p : Piece) → Contains ps p → ¬ Holds p b))
  place_of [] [] low b are sources = inr (refl, λ p h. absurd (omega (arith, h.1)))
  place_of [] (i ∷ items) low b are sources = absurd (cc are)
  place_of (p ∷ ps) [] low b are sources = absurd (cc are)
  place_of (p ∷ ps) (i ∷ items) low b are sources =
      let parts = item_parts i items (make_key 257 EXTENT_DATA (4096 * source_block p), file_extent_bytes (regular_extent p.place p.count)) (extents_at 257 source_block ps) are in
      let is : IsSource ranges p = sources.0 in
      let small = is.small in
      let offset : i.key.offset ≡ 4096 * source_block p = ap (λ (k : Key). k.offset) parts.0 in
      let read : file_extent_of i.body ≡ Some (regular_extent p.place p.count) = reads_extent p i.body small parts.1 in
      let step : file_block ranges (i ∷ items) b ≡ from_here p b (4096 * source_block p) (file_block ranges items b) =
      ap (λ (o : Option FileExtentValue). block_by_extent ranges i o b (file_block ranges items b)) read ∙ ap (λ (n : ℕ). from_here p b n (file_block ranges items b)) offset in
      ⊎_elim
      (λ (t : covers (4096 * source_block p) (Regular (range_by p)) (4096 * b) ≡ true).
      let h : Holds p b = of_piece p b t in
      inl (record {
        piece = p;
        among = contains_head p ps;
        holds = h;
        is = step ∙ (ap (λ (c : Bool). if c then content_block ranges (Regular (range_by p)) (b - 4096 * source_block p / 4096) else file_block ranges items b) t ∙ block_place p b is h);
      }))
      (λ (f : covers (4096 * source_block p) (Regular (range_by p)) (4096 * b) ≡ false).
      let past : file_block ranges (i ∷ items) b ≡ file_block ranges items b =
      step ∙ ap (λ (c : Bool). if c then content_block ranges (Regular (range_by p)) (b - 4096 * source_block p / 4096) else file_block ranges items b) f in
      ⊎_elim
      (λ (found : FoundIn ps b (file_block ranges items b)). inl (record { piece = found.piece; among = contains_tail found.piece p ps found.among; holds = found.holds; is = past ∙ found.is }))
      (λ none. inr (past ∙ none.0, λ q k h. ⊎_elim (λ (same : p ≡ q). absurd (both_ways (covers (4096 * source_block p) (Regular (range_by p)) (4096 * b)) f (in_piece p b (subst (λ (x : Piece). Holds x b) (sym same) h)))) (λ later. none.1 q later h) (contains_cases q p ps k)))
      (place_of ps items (source_block p + p.count) b parts.2 sources.2))
      (cases_Bool (covers (4096 * source_block p) (Regular (range_by p)) (4096 * b)))
