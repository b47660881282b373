-- Chunks that are added to a map.
use Rattle.btr_reader.proofs.Imports.{◌≡◌, ℕ, ◌+◌, ◌<◌, true, false, List, [], ◌∷◌, ◌++◌, length, drop, get_or, Option, Some, None, if◌then◌else◌, refl, sym, ◌∙◌, ap, subst, append_assoc, list_any, option_map, drop_more, BtrAnswer, BtrRefusal, Key, MapRange, TreeItem, none_both, ChunkAt, placed_chunk, range_of, same_chunk, is_chunk_key, beside_refusals, chunks_refusals, chunk_in, new_chunk, with_chunk, chunk_item_refusals, with_items, items_refusals, IsAmong}
use Rattle.btr_reader.proofs.Among.{among_left, among_right}

-- the next chunk of those that are left is refused
pub next_refused : (device : ℕ) (ranges : List MapRange) (chunks : List ChunkAt) (i : ℕ) (d : ChunkAt) (all : List BtrRefusal) (e : BtrAnswer) → i < length chunks
    → all ≡ chunks_refusals device ranges (drop i chunks) → IsAmong (beside_refusals device ranges (get_or chunks i d)) e → IsAmong all e
next_refused device ranges chunks i d all e lt rest bad =
    let c : ChunkAt = get_or chunks i d in
    subst (λ (z : List BtrRefusal). IsAmong z e) (sym (rest ∙ ap (chunks_refusals device ranges) (drop_more chunks i d lt)))
    (among_left (beside_refusals device ranges c) (chunks_refusals device (ranges ++ range_of c ∷ []) (drop (i + 1) chunks)) e bad)

-- a chunk of the chunk tree that the array has not
pub chunk_is_new : (boot : List ChunkAt) (key : Key) (body : List ℕ) (c : ChunkAt) → is_chunk_key key ≡ true → placed_chunk key.offset body ≡ Some c → list_any (same_chunk c) boot ≡ false
    → chunk_in boot key body ≡ Some (Some c)
chunk_is_new boot key body c named read fresh =
    ap (λ t. if t then option_map (new_chunk boot) (placed_chunk key.offset body) else Some None) named
    ∙ (ap (option_map (new_chunk boot)) read ∙ ap (λ t. Some (if t then None else Some c)) fresh)

pub with_items-append : (boot : List ChunkAt) (ranges : List MapRange) (xs ys : List TreeItem) → with_items boot ranges (xs ++ ys) ≡ with_items boot (with_items boot ranges xs) ys
with_items-append boot ranges [] ys = refl
with_items-append boot ranges (i ∷ xs) ys = with_items-append boot (with_chunk ranges (chunk_in boot i.key i.body)) xs ys

pub items_refusals-append : (device : ℕ) (boot : List ChunkAt) (ranges : List MapRange) (xs ys : List TreeItem)
    → items_refusals device boot ranges (xs ++ ys) ≡ items_refusals device boot ranges xs ++ items_refusals device boot (with_items boot ranges xs) ys
items_refusals-append device boot ranges [] ys = refl
items_refusals-append device boot ranges (i ∷ xs) ys =
    let own : List BtrRefusal = chunk_item_refusals device ranges i.key.offset (chunk_in boot i.key i.body) in
    let after : List MapRange = with_chunk ranges (chunk_in boot i.key i.body) in
    ap (λ (z : List BtrRefusal). own ++ z) (items_refusals-append device boot after xs ys)
    ∙ sym (append_assoc own (items_refusals device boot after xs) (items_refusals device boot (with_items boot after xs) ys))

-- an item more
pub item_added : (boot : List ChunkAt) (first ranges new : List MapRange) (given : List TreeItem) (i : TreeItem) (key : Key) (body : List ℕ) → key ≡ i.key → body ≡ i.body → ranges ≡ with_items boot first given
    → new ≡ with_chunk ranges (chunk_in boot key body) → new ≡ with_items boot first (given ++ i ∷ [])
item_added boot first ranges new given i key body named is before after =
    after
    ∙ (ap (λ (k : Key). with_chunk ranges (chunk_in boot k body)) named
    ∙ (ap (λ (b : List ℕ). with_chunk ranges (chunk_in boot i.key b)) is
    ∙ (ap (λ (r : List MapRange). with_chunk r (chunk_in boot i.key i.body)) before ∙ sym (with_items-append boot first given (i ∷ [])))))

abbrev own_refusals : ℕ → List ChunkAt → List MapRange → Key → List ℕ → List BtrRefusal
own_refusals device boot ranges key body = chunk_item_refusals device ranges key.offset (chunk_in boot key body)

same_own : (device : ℕ) (boot : List ChunkAt) (ranges other : List MapRange) (i : TreeItem) (key : Key) (body : List ℕ) → key ≡ i.key → body ≡ i.body → ranges ≡ other
    → own_refusals device boot ranges key body ≡ own_refusals device boot other i.key i.body
same_own device boot ranges other i key body named is same =
    ap (λ (k : Key). own_refusals device boot ranges k body) named
    ∙ (ap (own_refusals device boot ranges i.key) is ∙ ap (λ (r : List MapRange). own_refusals device boot r i.key i.body) same)

pub item_right : (device : ℕ) (boot : List ChunkAt) (first ranges : List MapRange) (given : List TreeItem) (i : TreeItem) (key : Key) (body : List ℕ) → key ≡ i.key → body ≡ i.body → ranges ≡ with_items boot first given
    → items_refusals device boot first given ≡ [] → chunk_item_refusals device ranges key.offset (chunk_in boot key body) ≡ [] → items_refusals device boot first (given ++ i ∷ []) ≡ []
item_right device boot first ranges given i key body named is before none own =
    items_refusals-append device boot first given (i ∷ [])
    ∙ none_both (items_refusals device boot first given) _ none
    (none_both (own_refusals device boot (with_items boot first given) i.key i.body) [] (sym (same_own device boot ranges (with_items boot first given) i key body named is before) ∙ own) refl)

-- an item that is refused is among the items of the tree
pub item_refused : (device : ℕ) (boot : List ChunkAt) (first ranges : List MapRange) (all given later : List TreeItem) (i : TreeItem) (key : Key) (body : List ℕ) (e : BtrAnswer) → key ≡ i.key → body ≡ i.body
    → ranges ≡ with_items boot first given → all ≡ (given ++ i ∷ []) ++ later → IsAmong (chunk_item_refusals device ranges key.offset (chunk_in boot key body)) e
    → IsAmong (items_refusals device boot first all) e
item_refused device boot first ranges all given later i key body e named is before parts bad =
    let here : List BtrRefusal = own_refusals device boot (with_items boot first given) i.key i.body in
    let bad_here : IsAmong here e = subst (λ (z : List BtrRefusal). IsAmong z e) (same_own device boot ranges (with_items boot first given) i key body named is before) bad in
    let begun : IsAmong (items_refusals device boot first (given ++ i ∷ [])) e =
    subst (λ (z : List BtrRefusal). IsAmong z e) (sym (items_refusals-append device boot first given (i ∷ [])))
    (among_right (items_refusals device boot first given) (here ++ []) e (among_left here [] e bad_here)) in
    subst (λ (z : List BtrRefusal). IsAmong z e) (sym (ap (items_refusals device boot first) parts ∙ items_refusals-append device boot first (given ++ i ∷ []) later))
    (among_left (items_refusals device boot first (given ++ i ∷ [])) _ e begun)
