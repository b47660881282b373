-- The chunks of a volume, one after the other.
use Rattle.space_items.proofs.Imports.{◌≡◌, ℕ, suc, ◌+◌, ◌≤◌, List, [], ◌∷◌, ◌++◌, length, map, take, get_or, Some, sym, ◌∙◌, ap, arith, take-suc, append_assoc, All, AllPairs, slice_get, map-append, take_all, sum_by-cons, sum_by_more, sum_by_more_le, slice_get_within, get_or_from_slice_get, DEV_ITEM, DEV_ITEMS_OBJECTID, Key, make_key, Item, device_bytes, Ids, chunk_item, chunk_items, device_body, PlannedChunk, Plan, IsChunk, AreChunks, role_of, usable_end}
use Rattle.std.specs.List.{sum_by}
use Rattle.btr_space_items.specs.declared.device.Device.{Device}
use Rattle.space_items.proofs.OneList.{chunks_one}

-- the blocks so far, and those of the next chunk
pub blocks_more : (cs : List PlannedChunk) (i : ℕ) (c : PlannedChunk) → slice_get cs i ≡ Some c → sum_by (λ d. d.length) (take (i + 1) cs) ≡ sum_by (λ d. d.length) (take i cs) + c.length
blocks_more cs i c is =
    let at : (get_or cs i c).length ≡ c.length = ap (λ (d : PlannedChunk). d.length) (get_or_from_slice_get cs i c c is) in
    omega (arith, sum_by_more (λ (d : PlannedChunk). d.length) cs i c (slice_get_within cs i c is), at)

pub blocks_more_le : (cs : List PlannedChunk) (i : ℕ) (c : PlannedChunk) → slice_get cs i ≡ Some c → sum_by (λ d. d.length) (take i cs) + c.length ≤ sum_by (λ d. d.length) cs
blocks_more_le cs i c is =
    let at : (get_or cs i c).length ≡ c.length = ap (λ (d : PlannedChunk). d.length) (get_or_from_slice_get cs i c c is) in
    omega (arith, sum_by_more_le (λ (d : PlannedChunk). d.length) cs i c (slice_get_within cs i c is), at)

-- chunks that ascend have no more blocks than there are from before the first to behind the last
blocks_between : (low high : ℕ) (cs : List PlannedChunk) → low ≤ high → AllPairs (λ c d. c.start + c.length ≤ d.start) cs → All (λ c. low ≤ c.start) cs → All (λ c. c.start + c.length ≤ high) cs
    → low + sum_by (λ c. c.length) cs ≤ high
blocks_between low high [] some ascend above below = omega arith
blocks_between low high (c ∷ cs) some ascend above below =
    let first : low ≤ c.start = above 0 c (omega arith) in
    let end : c.start + c.length ≤ high = below 0 c (omega arith) in
    let rest : c.start + c.length + sum_by (λ d. d.length) cs ≤ high =
    blocks_between (c.start + c.length) high cs end (λ i j d l h. ascend (suc i) (suc j) d (omega (arith, l)) (omega (arith, h))) (λ k d h. ascend 0 (suc k) d (omega arith) (omega (arith, h)))
    (λ k d h. below (suc k) d (omega (arith, h))) in
    omega (arith, first, rest, sum_by-cons (λ (d : PlannedChunk). d.length) c cs)

-- each chunk ends within the volume
pub chunk_ends : (plan : Plan) (blocks : ℕ) (cs : List PlannedChunk) → AreChunks plan blocks cs → All (λ c. c.start + c.length ≤ blocks) cs
chunk_ends plan blocks cs are k d h =
    let is : IsChunk (role_of plan blocks) (usable_end blocks) (get_or cs k d) = are.each k d h in
    omega (arith, is.ends)

-- and together they have no more blocks
pub chunk_blocks_fit : (plan : Plan) (blocks : ℕ) (cs : List PlannedChunk) → AreChunks plan blocks cs → sum_by (λ c. c.length) cs ≤ blocks
chunk_blocks_fit plan blocks cs are = omega (arith, blocks_between 0 blocks cs (omega arith) are.ascending (λ k d h. omega arith) (chunk_ends plan blocks cs are))

-- an item more for each chunk; `inside` is what stands for the chunks
pub mapped_more : (f : PlannedChunk → Item) (front old new : List Item) (inside cs : List PlannedChunk) (i : ℕ) (c : PlannedChunk) → inside ≡ cs → slice_get cs i ≡ Some c → old ≡ front ++ map f (take i inside) → new ≡ old ++ f c ∷ []
    → new ≡ front ++ map f (take (i + 1) inside)
mapped_more f front old new inside cs i c same there built added =
    let is : slice_get inside i ≡ Some c = ap (λ (l : List PlannedChunk). slice_get l i) same ∙ there in
    let one : i + 1 ≡ suc i = omega arith in
    let taken : take (i + 1) inside ≡ take i inside ++ c ∷ [] =
    ap (λ (n : ℕ). take n inside) one ∙ (take-suc inside i c (slice_get_within inside i c is) ∙ ap (λ (d : PlannedChunk). take i inside ++ d ∷ []) (get_or_from_slice_get inside i c c is)) in
    added ∙ (ap (λ (l : List Item). l ++ f c ∷ []) built ∙ (append_assoc front (map f (take i inside)) (f c ∷ [])
    ∙ ap (λ (l : List Item). front ++ l) (sym (ap (map f) taken ∙ map-append f (take i inside) (c ∷ [])))))

-- an item for each chunk of any list that the plan makes
pub mapped_all : (f : PlannedChunk → Item) (front items : List Item) (plan : Plan) (blocks : ℕ) (inside cs list : List PlannedChunk) (i : ℕ) → inside ≡ cs → length cs ≤ i → items ≡ front ++ map f (take i inside)
    → AreChunks plan blocks cs → AreChunks plan blocks list → items ≡ front ++ map f list
mapped_all f front items plan blocks inside cs list i same past built are others =
    let long : length inside ≤ i = omega (arith, ap (λ (l : List PlannedChunk). length l) same) in
    built ∙ ap (λ (l : List PlannedChunk). front ++ map f l) (take_all i inside long ∙ (same ∙ chunks_one plan blocks cs list are others))

-- the device's item, and those of the chunks
pub with_device : (ids : Ids) (plan : Plan) (blocks : ℕ) (cs list : List PlannedChunk) (none front items : List Item) (key : Key) (body : List ℕ) (device : Device) → AreChunks plan blocks cs
    → AreChunks plan blocks list → none ≡ [] → key ≡ make_key DEV_ITEMS_OBJECTID DEV_ITEM 1 → body ≡ device_bytes device → device ≡ device_body ids blocks cs → front ≡ none ++ (key, body) ∷ []
    → items ≡ front ++ map (chunk_item ids) list → items ≡ chunk_items ids blocks list
with_device ids plan blocks cs list none front items key body device are others empty key_is body_is device_is first all =
    let bytes : body ≡ device_bytes (device_body ids blocks list) = body_is ∙ ap device_bytes (device_is ∙ ap (device_body ids blocks) (chunks_one plan blocks cs list are others)) in
    let one : front ≡ (make_key DEV_ITEMS_OBJECTID DEV_ITEM 1, device_bytes (device_body ids blocks list)) ∷ [] =
    first ∙ (ap (λ (l : List Item). l ++ (key, body) ∷ []) empty ∙ (ap (λ (k : Key). (k, body) ∷ []) key_is ∙ ap (λ (b : List ℕ). (make_key DEV_ITEMS_OBJECTID DEV_ITEM 1, b) ∷ []) bytes)) in
    all ∙ ap (λ (l : List Item). l ++ map (chunk_item ids) list) one
