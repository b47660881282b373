-- The ranges of a map begin and end with blocks.
use Rattle.btr_reader.proofs.Imports.{◌≡◌, ℕ, ◌+◌, ◌*◌, ◌%◌, ◌≤◌, eqb, nat_le, true, List, [], ◌∷◌, ◌++◌, length, map, Option, Some, None, refl, sym, ◌∙◌, subst, arith, nat_tests, All-nil, All-cons, All-append, Image, BtrRefusal, BadBtrfs, Unsupported, ChunkForm, ChunkType, Super, MapRange, TreeItem, LieOn, wrong, found, IsInBlocks, AreInBlocks, refused_unless, none_left, none_right, holds_unless, first, second, ChunkAt, range_of, is_read_kind, lies_on, stripe_lies_on, stripes_of, chunk_refusals, beside_refusals, chunks_refusals, chunk_in, with_chunk, chunk_item_refusals, with_items, items_refusals, chunk_tree, root_tree, boot_chunks, boot_list, boot_refusals, map_from, or_later, trees_refusals, IsBtrfsOpened}
use Rattle.btr_reader.proofs.Opens.{opening_is}

on_device : (device : ℕ) (c : ChunkAt) → chunk_refusals device c ≡ [] → lies_on device c ≡ true
on_device device c none =
    let plain : List BtrRefusal = refused_unless (is_read_kind c.chunk.kind) (Unsupported ChunkType c.chunk.kind) in
    let single : List BtrRefusal = refused_unless (eqb c.chunk.num_stripes (stripes_of c.chunk.kind)) (Unsupported ChunkType c.chunk.num_stripes) in
    let placed : List BtrRefusal = refused_unless (lies_on device c) (BadBtrfs c.logical ChunkForm) in
    holds_unless (lies_on device c) (BadBtrfs c.logical ChunkForm) (none_right single placed (none_right plain (single ++ placed) none))

is_in_blocks : (device : ℕ) (c : ChunkAt) → lies_on device c ≡ true → IsInBlocks (range_of c)
is_in_blocks device c h =
    let logical : eqb (c.logical % 4096) 0 ≡ true = first (eqb (c.logical % 4096) 0) _ h in
    let rest = second (eqb (c.logical % 4096) 0) _ h in
    let long : eqb (c.chunk.length % 4096) 0 ≡ true = first (eqb (c.chunk.length % 4096) 0) _ rest in
    let stripe : stripe_lies_on device c.chunk.length c.chunk.stripe ≡ true = first (stripe_lies_on device c.chunk.length c.chunk.stripe) _ (second (eqb (c.chunk.length % 4096) 0) _ rest) in
    let place : eqb (c.chunk.stripe.offset % 4096) 0 ≡ true = first (eqb (c.chunk.stripe.offset % 4096) 0) _ stripe in
    record { logical = grind (arith, nat_tests, logical); length = grind (arith, nat_tests, long); physical = grind (arith, nat_tests, place) }

-- a map with one more chunk that lies on the device
pub added_inside : (device : ℕ) (ranges made : List MapRange) (c : ChunkAt) → LieOn device ranges → lies_on device c ≡ true → made ≡ ranges ++ range_of c ∷ [] → LieOn device made
added_inside device ranges made c all h is =
    let rest = second (eqb (c.logical % 4096) 0) _ h in
    let stripe : stripe_lies_on device c.chunk.length c.chunk.stripe ≡ true = first (stripe_lies_on device c.chunk.length c.chunk.stripe) _ (second (eqb (c.chunk.length % 4096) 0) _ rest) in
    let last : nat_le (c.chunk.stripe.offset + c.chunk.length) (4096 * device) ≡ true = second (eqb (c.chunk.stripe.offset % 4096) 0) _ stripe in
    let P : MapRange → Type 0 = λ r. r.physical + r.length ≤ 4096 * device in
    subst (LieOn device) (sym is) (All-append P ranges (range_of c ∷ []) all (All-cons P (range_of c) [] (grind (arith, nat_tests, last)) (All-nil P)))

-- a chunk with which nothing is wrong
chunk_in_blocks : (device : ℕ) (others : List MapRange) (c : ChunkAt) → beside_refusals device others c ≡ [] → IsInBlocks (range_of c)
chunk_in_blocks device others c none =
    is_in_blocks device c (on_device device c (none_left (chunk_refusals device c) _ none))

chunks_in_blocks : (device : ℕ) (others : List MapRange) (cs : List ChunkAt) → chunks_refusals device others cs ≡ [] → AreInBlocks (map range_of cs)
chunks_in_blocks device others [] none = All-nil IsInBlocks
chunks_in_blocks device others (c ∷ cs) none =
    let own : List BtrRefusal = beside_refusals device others c in
    let rest : List BtrRefusal = chunks_refusals device (others ++ range_of c ∷ []) cs in
    All-cons IsInBlocks (range_of c) (map range_of cs) (chunk_in_blocks device others c (none_left own rest none))
    (chunks_in_blocks device (others ++ range_of c ∷ []) cs (none_right own rest none))

boot_in_blocks : (device : ℕ) (chunks : Option (List ChunkAt)) → boot_refusals device chunks ≡ [] → AreInBlocks (map range_of (boot_list chunks))
boot_in_blocks device None none = All-nil IsInBlocks
boot_in_blocks device (Some chunks) none = chunks_in_blocks device [] chunks none

-- a map after an item of the chunk tree
with_chunk_in_blocks : (device : ℕ) (ranges : List MapRange) (logical : ℕ) (o : Option (Option ChunkAt)) → chunk_item_refusals device ranges logical o ≡ [] → AreInBlocks ranges
    → AreInBlocks (with_chunk ranges o)
with_chunk_in_blocks device ranges logical None none all = all
with_chunk_in_blocks device ranges logical (Some None) none all = all
with_chunk_in_blocks device ranges logical (Some (Some c)) none all =
    All-append IsInBlocks ranges (range_of c ∷ []) all (All-cons IsInBlocks (range_of c) [] (chunk_in_blocks device ranges c none) (All-nil IsInBlocks))

with_items_in_blocks : (device : ℕ) (boot : List ChunkAt) (ranges : List MapRange) (items : List TreeItem) → items_refusals device boot ranges items ≡ [] → AreInBlocks ranges
    → AreInBlocks (with_items boot ranges items)
with_items_in_blocks device boot ranges [] none all = all
with_items_in_blocks device boot ranges (i ∷ items) none all =
    let o : Option (Option ChunkAt) = chunk_in boot i.key i.body in
    let own : List BtrRefusal = chunk_item_refusals device ranges i.key.offset o in
    let rest : List BtrRefusal = items_refusals device boot (with_chunk ranges o) items in
    with_items_in_blocks device boot (with_chunk ranges o) items (none_right own rest none)
    (with_chunk_in_blocks device ranges i.key.offset o (none_left own rest none) all)

first_none : (xs ys : List BtrRefusal) → or_later xs ys ≡ [] → xs ≡ []
first_none [] ys none = refl
first_none (x ∷ xs) ys none = none

later_none : (xs ys : List BtrRefusal) → or_later xs ys ≡ [] → ys ≡ []
later_none [] ys none = none
later_none (x ∷ xs) ys none = absurd (cc none)

-- nothing is wrong with the array of a volume that was opened, nor with the items of its chunk tree
pub opened_sound : (image : Image) (s : Super) (ranges : List MapRange) → IsBtrfsOpened image s ranges
    → (boot_refusals (length image) (boot_chunks s) ≡ []) × (items_refusals (length image) (boot_list (boot_chunks s)) (map range_of (boot_list (boot_chunks s))) (found image (map range_of (boot_list (boot_chunks s))) (chunk_tree s)) ≡ [])
opened_sound image s ranges opened =
    let device : ℕ = length image in
    let boot : List ChunkAt = boot_list (boot_chunks s) in
    let all : or_later (boot_refusals (length image) (boot_chunks s)) (trees_refusals image s (boot_list (boot_chunks s))) ≡ [] = sym (opening_is image s opened.super) ∙ opened.sound in
    let trees : trees_refusals image s (boot_list (boot_chunks s)) ≡ [] = later_none (boot_refusals device (boot_chunks s)) (trees_refusals image s boot) all in
    let nodes : List BtrRefusal = wrong image (map range_of boot) (chunk_tree s) in
    let items : List BtrRefusal = items_refusals device boot (map range_of boot) (found image (map range_of boot) (chunk_tree s)) in (
      first_none (boot_refusals device (boot_chunks s)) (trees_refusals image s boot) all,
      none_right nodes items (first_none (nodes ++ items) (wrong image (map_from image s boot) (root_tree s)) trees),
    )

-- the map of a volume that was opened
pub opened_in_blocks : (image : Image) (s : Super) (ranges : List MapRange) → IsBtrfsOpened image s ranges → AreInBlocks ranges
opened_in_blocks image s ranges opened =
    let device : ℕ = length image in
    let boot : List ChunkAt = boot_list (boot_chunks s) in
    let sound = opened_sound image s ranges opened in
    subst AreInBlocks (sym opened.map_is) (with_items_in_blocks device boot (map range_of boot) (found image (map range_of boot) (chunk_tree s)) sound.1 (boot_in_blocks device (boot_chunks s) sound.0))
