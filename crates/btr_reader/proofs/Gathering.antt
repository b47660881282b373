-- The extents of a file, one after the other.
use Rattle.btr_reader.proofs.Imports.{◌≡◌, ℕ, ◌+◌, ◌-◌, ◌*◌, ◌/◌, ◌%◌, ◌≤◌, ◌<◌, eqb, nat_lt, Bool, true, false, if◌then◌else◌, List, [], ◌∷◌, ◌++◌, Option, Some, None, refl, sym, ◌∙◌, ap, arith, nat_tests, append-nil, option_map, BtrRefusal, ContentValue, Inline, Regular, Prealloc, FileExtentValue, file_extent_of, DiskRange, MapRange, place, TreeItem, none_right, first, second, end_grows, covers_at, past_end, before_start, MappedExtent, is_hole, covers, range_is_aligned, is_aligned, end_after, covered_after, refusals_at, extents_refusals, extents_end, content_block, block_by_extent, file_block, holds_block, block_in, or_else, pieces_place, range_piece, range_pieces, pieces_of}

passes : (ranges : List MapRange) (i : TreeItem) (o : Option FileExtentValue) (b : ℕ) (other : Option ℕ) → covers_at i.key.offset (4096 * b) o ≡ false → block_by_extent ranges i o b other ≡ other
passes ranges i None b other no_ = refl
passes ranges i (Some x) b other no_ = ap (λ t. if t then content_block ranges x.content (b - i.key.offset / 4096) else other) no_

-- blocks past the end of some extents are not theirs
pub passes_all : (ranges : List MapRange) (e c b : ℕ) (xs ys : List TreeItem) → extents_refusals ranges e c xs ≡ [] → extents_end e xs ≤ 4096 * b
    → file_block ranges (xs ++ ys) b ≡ file_block ranges ys b
passes_all ranges e c b [] ys none past = refl
passes_all ranges e c b (i ∷ xs) ys none past =
    let own : List BtrRefusal = refusals_at ranges e c i (file_extent_of i.body) in
    let end : ℕ = end_after e i.key.offset (file_extent_of i.body) in
    let covered : ℕ = covered_after c (file_extent_of i.body) in
    let sound : extents_refusals ranges end covered xs ≡ [] = none_right own (extents_refusals ranges end covered xs) none in
    let grows : end ≤ extents_end end xs = end_grows ranges end covered xs sound in
    let past_this : end ≤ 4096 * b = omega (arith, grows, past) in
    passes ranges i (file_extent_of i.body) b (file_block ranges (xs ++ ys) b) (past_end i.key.offset (4096 * b) (file_extent_of i.body) e past_this)
    ∙ passes_all ranges end covered b xs ys sound past

-- an extent behind others that has not the block
adds_none : (ranges : List MapRange) (b : ℕ) (xs : List TreeItem) (i : TreeItem) → file_block ranges (i ∷ []) b ≡ None → file_block ranges (xs ++ i ∷ []) b ≡ file_block ranges xs b
adds_none ranges b [] i none = none
adds_none ranges b (x ∷ xs) i none = ap (block_by_extent ranges x (file_extent_of x.body) b) (adds_none ranges b xs i none)

or_else-none : (o : Option ℕ) → or_else o None ≡ o
or_else-none None = refl
or_else-none (Some n) = refl

or_else-assoc : (a b c : Option ℕ) → or_else a (or_else b c) ≡ or_else (or_else a b) c
or_else-assoc None b c = refl
or_else-assoc (Some n) b c = refl

pieces_place-append : (ranges : List MapRange) (b : ℕ) (ps qs : List MappedExtent) → pieces_place ranges (ps ++ qs) b ≡ or_else (pieces_place ranges ps b) (pieces_place ranges qs b)
pieces_place-append ranges b [] qs = refl
pieces_place-append ranges b (p ∷ ps) qs =
    ap (or_else (block_in ranges p b)) (pieces_place-append ranges b ps qs) ∙ or_else-assoc (block_in ranges p b) (pieces_place ranges ps b) (pieces_place ranges qs b)

none_either : (t : Bool) (o : Option ℕ) → o ≡ None → (if t then o else None) ≡ None
none_either true o none = none
none_either false o none = refl

-- a block is in the piece of a range exactly where the range covers its bytes
same_cover : (offset b : ℕ) (r : DiskRange) → range_is_aligned offset r ≡ true → holds_block (range_piece offset r) b ≡ covers offset (Regular r) (4096 * b)
same_cover offset b r h =
    let whole : eqb (offset % 4096) 0 ≡ true = first (eqb (offset % 4096) 0) _ h in
    let rest = second (eqb (offset % 4096) 0) _ h in
    let counted : eqb (r.num_bytes % 4096) 0 ≡ true = first (eqb (r.num_bytes % 4096) 0) _ rest in
    let at : offset % 4096 ≡ 0 = grind (arith, nat_tests, whole) in
    let many : r.num_bytes % 4096 ≡ 0 = grind (arith, nat_tests, counted) in
    grind (arith, nat_tests, at, many)

regular_block : (ranges : List MapRange) (offset b : ℕ) (r : DiskRange) (hole : Bool) → is_hole r ≡ hole → range_is_aligned offset r ≡ true
    → pieces_place ranges (range_pieces offset r) b ≡ (if covers offset (Regular r) (4096 * b) then content_block ranges (Regular r) (b - offset / 4096) else None)
regular_block ranges offset b r true hole aligned =
    ap (λ t. pieces_place ranges (if t then [] else range_piece offset r ∷ []) b) hole
    ∙ (sym (none_either (covers offset (Regular r) (4096 * b)) None refl)
    ∙ ap (λ t. if covers offset (Regular r) (4096 * b) then (if t then None else option_map (λ p. p / 4096) (place ranges (r.disk_bytenr + r.offset + 4096 * (b - offset / 4096)))) else None) (sym hole))
regular_block ranges offset b r false hole aligned =
    let there : Option ℕ = option_map (λ p. p / 4096) (place ranges (r.disk_bytenr + r.offset + 4096 * (b - offset / 4096))) in
    ap (λ t. pieces_place ranges (if t then [] else range_piece offset r ∷ []) b) hole
    ∙ (or_else-none (block_in ranges (range_piece offset r) b)
    ∙ (ap (λ t. if t then there else None) (same_cover offset b r aligned)
    ∙ ap (λ t. if covers offset (Regular r) (4096 * b) then (if t then None else there) else None) (sym hole)))

content_pieces : (ranges : List MapRange) (offset b : ℕ) (content : ContentValue) → is_aligned offset content ≡ true
    → pieces_place ranges (pieces_of offset content) b ≡ (if covers offset content (4096 * b) then content_block ranges content (b - offset / 4096) else None)
content_pieces ranges offset b (Inline bytes) aligned = sym (none_either (covers offset (Inline bytes) (4096 * b)) None refl)
content_pieces ranges offset b (Regular r) aligned = regular_block ranges offset b r (is_hole r) refl aligned
content_pieces ranges offset b (Prealloc r) aligned = sym (none_either (covers offset (Prealloc r) (4096 * b)) None refl)

-- the pieces of one extent give its blocks
one_extent : (ranges : List MapRange) (i : TreeItem) (x : FileExtentValue) (b : ℕ) → file_extent_of i.body ≡ Some x → is_aligned i.key.offset x.content ≡ true
    → pieces_place ranges (pieces_of i.key.offset x.content) b ≡ file_block ranges (i ∷ []) b
one_extent ranges i x b read aligned =
    content_pieces ranges i.key.offset b x.content aligned ∙ ap (λ (o : Option FileExtentValue). block_by_extent ranges i o b None) (sym read)

-- and behind those of others, the blocks of all
abbrev Same : List MapRange → List MappedExtent → List TreeItem → ℕ → Type 0
Same ranges ps xs b = pieces_place ranges ps b ≡ file_block ranges xs b

one_more_by : (ranges : List MapRange) (done : List TreeItem) (i : TreeItem) (x : FileExtentValue) (ps : List MappedExtent) (b : ℕ) (t : Bool) → nat_lt (4096 * b) (extents_end 0 done) ≡ t
    → file_extent_of i.body ≡ Some x → extents_refusals ranges 0 0 done ≡ [] → extents_end 0 done ≤ i.key.offset → is_aligned i.key.offset x.content ≡ true
    → Same ranges ps done b → Same ranges (ps ++ pieces_of i.key.offset x.content) (done ++ i ∷ []) b
one_more_by ranges done i x ps b true test read sound behind aligned same =
    let before : 4096 * b < i.key.offset = grind (arith, nat_tests, test, behind) in
    let alone : file_block ranges (i ∷ []) b ≡ None = passes ranges i (file_extent_of i.body) b None (before_start i.key.offset (4096 * b) (file_extent_of i.body) before) in
    let none : pieces_place ranges (pieces_of i.key.offset x.content) b ≡ None = one_extent ranges i x b read aligned ∙ alone in
    pieces_place-append ranges b ps (pieces_of i.key.offset x.content)
    ∙ (ap (or_else (pieces_place ranges ps b)) none ∙ (or_else-none (pieces_place ranges ps b) ∙ (same ∙ sym (adds_none ranges b done i alone))))
one_more_by ranges done i x ps b false test read sound behind aligned same =
    let past : extents_end 0 done ≤ 4096 * b = grind (arith, nat_tests, test) in
    let nil : file_block ranges done b ≡ None = ap (λ (z : List TreeItem). file_block ranges z b) (sym (append-nil done)) ∙ passes_all ranges 0 0 b done [] sound past in
    pieces_place-append ranges b ps (pieces_of i.key.offset x.content)
    ∙ (ap (λ o. or_else o (pieces_place ranges (pieces_of i.key.offset x.content) b)) (same ∙ nil)
    ∙ (one_extent ranges i x b read aligned ∙ sym (passes_all ranges 0 0 b done (i ∷ []) sound past)))

pub one_more : (ranges : List MapRange) (done : List TreeItem) (i : TreeItem) (x : FileExtentValue) (ps : List MappedExtent) (b : ℕ)
    → file_extent_of i.body ≡ Some x → extents_refusals ranges 0 0 done ≡ [] → extents_end 0 done ≤ i.key.offset → is_aligned i.key.offset x.content ≡ true
    → Same ranges ps done b → Same ranges (ps ++ pieces_of i.key.offset x.content) (done ++ i ∷ []) b
one_more ranges done i x ps b read sound behind aligned same =
    one_more_by ranges done i x ps b (nat_lt (4096 * b) (extents_end 0 done)) refl read sound behind aligned same
