-- The ranges of a map have no address in common.
use Rattle.btr_reader.proofs.Imports.{◌≡◌, ℕ, zero, suc, ◌+◌, ◌<◌, Bool, true, false, ◌||◌, if◌then◌else◌, List, [], ◌∷◌, ◌++◌, length, map, get_or, AllPairs, Option, Some, None, ⊎_elim, true≢false, refl, sym, subst, arith, append_assoc, length-append, list_any, cases_lt, nat_tests, append-nil, get_or_append_left, get_or_at, Image, BtrRefusal, BadBtrfs, ChunkForm, Super, MapRange, TreeItem, found, none_left, none_right, ChunkAt, range_of, overlap, chunk_refusals, beside_refusals, chunks_refusals, chunk_in, with_chunk, chunk_item_refusals, with_items, items_refusals, AreRangesApart, chunk_tree, boot_chunks, boot_list, boot_refusals, IsBtrfsOpened}
use Rattle.btr_reader.proofs.MapBlocks.{opened_sound}

or_first : (a b : Bool) → (a || b) ≡ false → a ≡ false
or_first false b none = refl
or_first true b none = none

or_second : (a b : Bool) → (a || b) ≡ false → b ≡ false
or_second false b none = none
or_second true b none = absurd (true≢false none)

any_none : {X : Type 0} (p : X → Bool) (xs : List X) → list_any p xs ≡ false → (i : ℕ) (d : X) → i < length xs → p (get_or xs i d) ≡ false
any_none p [] none i d within = absurd (omega arith)
any_none p (x ∷ xs) none zero d within = or_first (p x) (list_any p xs) none
any_none p (x ∷ xs) none (suc i) d within = any_none p xs (or_second (p x) (list_any p xs) none) i d (omega (arith, within))

length_more : {X : Type 0} (xs : List X) (y : X) → length (xs ++ y ∷ []) ≡ length xs + 1
length_more xs y = length-append xs (y ∷ [])

-- one element more, to which each before it is related
pairs_more : {X : Type 0} (R : X → X → Type 0) (xs : List X) (y : X) → AllPairs R xs → ((i : ℕ) (d : X) → i < length xs → R (get_or xs i d) y) → AllPairs R (xs ++ y ∷ [])
pairs_more R xs y all last i j d before within =
    ⊎_elim
    (λ less. subst (λ a. R a (get_or (xs ++ y ∷ []) j d)) (sym (get_or_append_left xs (y ∷ []) d i (omega (arith, before, less))))
    (subst (R (get_or xs i d)) (sym (get_or_append_left xs (y ∷ []) d j less)) (all i j d before less)))
    (λ not_less.
    let end : length xs ≡ j = omega (arith, not_less, within, length_more xs y) in
    subst (λ a. R a (get_or (xs ++ y ∷ []) j d)) (sym (get_or_append_left xs (y ∷ []) d i (omega (arith, before, end))))
    (subst (R (get_or xs i d)) (sym (get_or_at xs y [] d j end)) (last i d (omega (arith, before, end)))))
    (cases_lt j (length xs))

-- ranges that do not overlap have no address in common
apart : (a b : MapRange) → overlap b a ≡ false → AreRangesApart a b
apart a b none address first second = grind (arith, nat_tests, none, first.from, first.below, second.from, second.below)

if_none : (b : Bool) (r : BtrRefusal) → (if b then r ∷ [] else []) ≡ [] → b ≡ false
if_none false r none = refl
if_none true r none = absurd (cc none)

-- a map with one more chunk with which nothing is wrong
chunk_apart : (device : ℕ) (others : List MapRange) (c : ChunkAt) → AllPairs AreRangesApart others → beside_refusals device others c ≡ [] → AllPairs AreRangesApart (others ++ range_of c ∷ [])
chunk_apart device others c all none =
    let any = if_none (list_any (overlap (range_of c)) others) (BadBtrfs c.logical ChunkForm) (none_right (chunk_refusals device c) _ none) in
    pairs_more AreRangesApart others (range_of c) all (λ i d within. apart (get_or others i d) (range_of c) (any_none (overlap (range_of c)) others any i d within))

chunks_apart : (device : ℕ) (others : List MapRange) (cs : List ChunkAt) → AllPairs AreRangesApart others → chunks_refusals device others cs ≡ [] → AllPairs AreRangesApart (others ++ map range_of cs)
chunks_apart device others [] all none = subst (AllPairs AreRangesApart) (sym (append-nil others)) all
chunks_apart device others (c ∷ cs) all none =
    let own : List BtrRefusal = beside_refusals device others c in
    let rest : List BtrRefusal = chunks_refusals device (others ++ range_of c ∷ []) cs in
    subst (AllPairs AreRangesApart) (append_assoc others (range_of c ∷ []) (map range_of cs))
    (chunks_apart device (others ++ range_of c ∷ []) cs (chunk_apart device others c all (none_left own rest none)) (none_right own rest none))

no_pairs : AllPairs AreRangesApart []
no_pairs i j d before within = absurd (omega (arith, before, within))

boot_apart : (device : ℕ) (chunks : Option (List ChunkAt)) → boot_refusals device chunks ≡ [] → AllPairs AreRangesApart (map range_of (boot_list chunks))
boot_apart device None none = no_pairs
boot_apart device (Some chunks) none = chunks_apart device [] chunks no_pairs none

-- a map after an item of the chunk tree
with_chunk_apart : (device : ℕ) (ranges : List MapRange) (logical : ℕ) (o : Option (Option ChunkAt)) → chunk_item_refusals device ranges logical o ≡ [] → AllPairs AreRangesApart ranges
    → AllPairs AreRangesApart (with_chunk ranges o)
with_chunk_apart device ranges logical None none all = all
with_chunk_apart device ranges logical (Some None) none all = all
with_chunk_apart device ranges logical (Some (Some c)) none all = chunk_apart device ranges c all none

with_items_apart : (device : ℕ) (boot : List ChunkAt) (ranges : List MapRange) (items : List TreeItem) → items_refusals device boot ranges items ≡ [] → AllPairs AreRangesApart ranges
    → AllPairs AreRangesApart (with_items boot ranges items)
with_items_apart device boot ranges [] none all = all
with_items_apart device boot ranges (i ∷ items) none all =
    let o : Option (Option ChunkAt) = chunk_in boot i.key i.body in
    let own : List BtrRefusal = chunk_item_refusals device ranges i.key.offset o in
    let rest : List BtrRefusal = items_refusals device boot (with_chunk ranges o) items in
    with_items_apart device boot (with_chunk ranges o) items (none_right own rest none)
    (with_chunk_apart device ranges i.key.offset o (none_left own rest none) all)

-- the map of a volume that was opened
pub opened_apart : (image : Image) (s : Super) (ranges : List MapRange) → IsBtrfsOpened image s ranges → AllPairs AreRangesApart ranges
opened_apart image s ranges opened =
    let device : ℕ = length image in
    let boot : List ChunkAt = boot_list (boot_chunks s) in
    let sound = opened_sound image s ranges opened in
    subst (AllPairs AreRangesApart) (sym opened.map_is) (with_items_apart device boot (map range_of boot) (found image (map range_of boot) (chunk_tree s)) sound.1 (boot_apart device (boot_chunks s) sound.0))
