-- The chunks of a converted volume are read as they were written.
use Rattle.convert_core_laws.proofs.Imports.{◌≡◌, ◌≢◌, ◌⊎◌, ◌≤◌, ◌<◌, ℕ, suc, ◌+◌, ◌*◌, ◌%◌, ◌^◌, inl, inr, ◌&&◌, eqb, Bool, true, false, not, cond, List, [], ◌∷◌, ◌++◌, length, map, filter, max, min, Option, Some, None, refl, sym, ap, subst, ◌∙◌, ⊎_elim, arith, append_assoc, AllPairs, Contains, if◌then◌else◌, nat_eq, AllByRecursion, flat_map, list_any, option_map, and_from, cases_Bool, eq-eqb, le-leb, le-ltb, ne_eqb, or_left, or_right, append-nil, map-append, Contains-append_cases, flat_map-map, CHUNK_ITEM, DEV_ITEM, DEV_ITEMS_OBJECTID, FIRST_CHUNK_TREE_OBJECTID, BtrRefusal, BadBtrfs, Unsupported, ChunkForm, ChunkType, Ids, refused_unless, make_key, Key, Item, device_bytes, chunk_made, TreeItem, bare_item, MapRange, beside_refusals, chunk_in, chunk_item_refusals, chunk_refusals, chunks_refusals, is_read_kind, items_refusals, lies_on, new_chunk, overlap, same_body, same_chunk, same_mirror, same_stripe, with_chunk, with_items, FitsArray, array_entry, ChunkAt, is_system_role, record_bytes, contains_cases, contains_head, contains_tail, chunk_body, chunk_item, chunk_items, chunk_kind, device_body, PlannedChunk, Role, System, Metadata, Data, chunk_at, range_for, Stripe}
use Rattle.std.specs.Prelude.{nat_lt}
use Rattle.btr_reader.specs.Chunks.{stripes_of}
use Rattle.std.specs.Cmp.Lexicographic.{pointwise}
use Rattle.btr_reader.specs.btr_space_items.Chunk.{chunk_bytes, chunk_layout}
use Rattle.btr_reader.specs.btr_space_items.Stripe.{stripe_layout}
use Rattle.btr_reader.specs.btr_space_items.declared.chunk.Chunk.{Chunk}

-- ---- the bootstrap array

-- a chunk fits its fields
body_fits : (ids : Ids) (c : PlannedChunk) → length ids.device ≡ 16 → c.start + c.length ≤ 2 ^ 29 → chunk_layout.fits (chunk_body ids c)
unfolding chunk_layout stripe_layout
body_fits ids c long small = ((((((((((tt, omega (arith, small)), omega arith), omega arith), kind_low c.role), omega arith), omega arith), omega arith), omega arith), omega arith), (((tt, omega arith), omega (arith, small)), long))
  where
    kind_low : (role : Role) → chunk_kind role < 256 ^ 8
    kind_low System = omega arith
    kind_low Metadata = omega arith
    kind_low Data = omega arith

fits_array : (ids : Ids) (c : PlannedChunk) → length ids.device ≡ 16 → c.start + c.length ≤ 2 ^ 29 → FitsArray (chunk_at ids c)
fits_array ids c long small = record { logical = omega (arith, small); fields = body_fits ids c long small; single = refl; alone = refl }

pub all_fit : (ids : Ids) (cs : List PlannedChunk) → length ids.device ≡ 16 → ((c : PlannedChunk) → Contains cs c → c.start + c.length ≤ 2 ^ 29) → AllByRecursion FitsArray (map (chunk_at ids) cs)
all_fit ids [] long small = tt
all_fit ids (c ∷ cs) long small = (fits_array ids c long (small c (contains_head c cs)), all_fit ids cs long (λ d h. small d (contains_tail d c cs h)))

-- the bytes of the array are those of its chunks
pub entries_are : (ids : Ids) (cs : List PlannedChunk) → flat_map array_entry (map (chunk_at ids) cs) ≡ flat_map (λ c. record_bytes (chunk_item ids c)) cs
entries_are ids cs = flat_map-map array_entry (chunk_at ids) cs

-- ---- chunks beside each other

-- no block is in both
abbrev pub AreApart : PlannedChunk → PlannedChunk → Type 0
AreApart c d = (c.start + c.length ≤ d.start) ⊎ (d.start + d.length ≤ c.start)

-- a chunk has a block and lies on the device
pub record LiesOn (device : ℕ) (c : PlannedChunk) : Type 0 where
  pub some : 1 ≤ c.length
  pub end : c.start + c.length ≤ device

apart_overlap : (c d : PlannedChunk) → AreApart c d → overlap (range_for c) (range_for d) ≡ false
apart_overlap c d apart = ⊎_elim (λ low. first c.start c.length d.start d.length low) (λ high. second c.start c.length d.start d.length high) apart
  where
    first : (a l b k : ℕ) → a + l ≤ b → nat_lt (max (4096 * a) (4096 * b)) (min (4096 * a + 4096 * l) (4096 * b + 4096 * k)) ≡ false
    first a l b k h = le-ltb (max (4096 * a) (4096 * b)) (min (4096 * a + 4096 * l) (4096 * b + 4096 * k)) (omega (arith, h))

    second : (a l b k : ℕ) → b + k ≤ a → nat_lt (max (4096 * a) (4096 * b)) (min (4096 * a + 4096 * l) (4096 * b + 4096 * k)) ≡ false
    second a l b k h = le-ltb (max (4096 * a) (4096 * b)) (min (4096 * a + 4096 * l) (4096 * b + 4096 * k)) (omega (arith, h))

none_overlaps : (c : PlannedChunk) (ds : List PlannedChunk) → ((d : PlannedChunk) → Contains ds d → AreApart c d) → list_any (overlap (range_for c)) (map range_for ds) ≡ false
none_overlaps c [] apart = refl
none_overlaps c (d ∷ ds) apart =
    rw (apart_overlap c d (apart d (contains_head d ds))) (none_overlaps c ds (λ e h. apart e (contains_tail e d ds h)))

kind_read : (role : Role) → is_read_kind (chunk_kind role) ≡ true
kind_read System = refl
kind_read Metadata = refl
kind_read Data = refl

stripes_read : (role : Role) → eqb 1 (stripes_of (chunk_kind role)) ≡ true
stripes_read System = refl
stripes_read Metadata = refl
stripes_read Data = refl

four_hold : (a b c d : Bool) → a ≡ true → b ≡ true → c ≡ true → d ≡ true → (a && (b && ((c && d) && true))) ≡ true
four_hold a b c d e f g h = rw (e, f, g, h) refl

on_device : (ids : Ids) (device : ℕ) (c : PlannedChunk) → LiesOn device c → lies_on device (chunk_at ids c) ≡ true
on_device ids device c is =
    let end = is.end in
    four_hold _ _ _ _ (eq-eqb ((4096 * c.start) % 4096) 0 (omega arith)) (eq-eqb ((4096 * c.length) % 4096) 0 (omega arith)) (eq-eqb ((4096 * c.start) % 4096) 0 (omega arith))
    (le-leb (4096 * c.start + 4096 * c.length) (4096 * device) (omega (arith, end)))

own_sound : (ids : Ids) (device : ℕ) (c : PlannedChunk) → LiesOn device c → chunk_refusals device (chunk_at ids c) ≡ []
own_sound ids device c is = by _ _ _ (kind_read c.role) (stripes_read c.role) (on_device ids device c is)
  where
    by : (a n b : Bool) → a ≡ true → n ≡ true → b ≡ true → refused_unless a (Unsupported ChunkType (chunk_kind c.role)) ++ (refused_unless n (Unsupported ChunkType 1) ++ refused_unless b (BadBtrfs (4096 * c.start) ChunkForm)) ≡ []
    by a n b s u t = rw (s, u, t) refl

-- nothing is wrong with a chunk beside others
beside_sound : (ids : Ids) (device : ℕ) (c : PlannedChunk) (ds : List PlannedChunk) → LiesOn device c → ((d : PlannedChunk) → Contains ds d → AreApart c d) → beside_refusals device (map range_for ds) (chunk_at ids c) ≡ []
beside_sound ids device c ds is apart =
    ap (λ (rs : List BtrRefusal). rs ++ (if list_any (overlap (range_for c)) (map range_for ds) then BadBtrfs (4096 * c.start) ChunkForm ∷ [] else [])) (own_sound ids device c is)
    ∙ ap (λ (b : Bool). if b then BadBtrfs (4096 * c.start) ChunkForm ∷ [] else []) (none_overlaps c ds apart)

-- one range more
range_more : (ds : List PlannedChunk) (c : PlannedChunk) → map range_for ds ++ range_for c ∷ [] ≡ map range_for (ds ++ c ∷ [])
range_more ds c = sym (map-append range_for ds (c ∷ []))

-- an element of a list with one more
one_more : (ds : List PlannedChunk) (c d : PlannedChunk) → Contains (ds ++ c ∷ []) d → Contains ds d ⊎ (c ≡ d)
one_more ds c d h = ⊎_elim (λ first. inl first) (λ last. ⊎_elim (λ (same : c ≡ d). inr same) (λ (none : Contains [] d). absurd (omega (arith, none.1))) (contains_cases d c [] last)) (Contains-append_cases ds (c ∷ []) d h)

-- nothing is wrong with chunks one after the other, after others
pub array_sound : (ids : Ids) (device : ℕ) (ds cs : List PlannedChunk) → ((c : PlannedChunk) → Contains cs c → LiesOn device c) → ((c d : PlannedChunk) → Contains cs c → Contains ds d → AreApart c d)
    → AllPairs (λ c d. c.start + c.length ≤ d.start) cs → chunks_refusals device (map range_for ds) (map (chunk_at ids) cs) ≡ []
array_sound ids device ds [] each apart ascend = refl
array_sound ids device ds (c ∷ cs) each apart ascend =
    let here : beside_refusals device (map range_for ds) (chunk_at ids c) ≡ [] = beside_sound ids device c ds (each c (contains_head c cs)) (λ d h. apart c d (contains_head c cs) h) in
    let rest : chunks_refusals device (map range_for (ds ++ c ∷ [])) (map (chunk_at ids) cs) ≡ [] =
    array_sound ids device (ds ++ c ∷ []) cs (λ e h. each e (contains_tail e c cs h)) later (λ i j d order within. ascend (suc i) (suc j) d (omega (arith, order)) (omega (arith, within))) in
    ap (λ (rs : List BtrRefusal). rs ++ chunks_refusals device (map range_for ds ++ range_for c ∷ []) (map (chunk_at ids) cs)) here
    ∙ (ap (λ (ranges : List MapRange). chunks_refusals device ranges (map (chunk_at ids) cs)) (range_more ds c) ∙ rest)
  where
    later : (e d : PlannedChunk) → Contains cs e → Contains (ds ++ c ∷ []) d → AreApart e d
    later e d h k =
        ⊎_elim (λ (first : Contains ds d). apart e d (contains_tail e c cs h) first)
        (λ (same : c ≡ d). inr (subst (λ (x : PlannedChunk). x.start + x.length ≤ e.start) same (subst (λ (x : PlannedChunk). c.start + c.length ≤ x.start) h.2 (ascend 0 (suc h.0) e (omega arith) (let w = h.1 in omega (arith, w))))))
        (one_more ds c d k)

-- ---- the items of the chunk tree

same_list : (xs : List ℕ) → pointwise nat_eq xs xs ≡ true
same_list [] = refl
same_list (x ∷ xs) = and_from (eqb x x) (pointwise nat_eq xs xs) (eq-eqb x x refl) (same_list xs)

stripe_itself : (s : Stripe) → same_stripe s s ≡ true
stripe_itself s = and_from _ _ (eq-eqb s.devid s.devid refl) (and_from _ _ (eq-eqb s.offset s.offset refl) (same_list s.device_uuid))

mirror_itself : (m : Option Stripe) → same_mirror m m ≡ true
mirror_itself None = refl
mirror_itself (Some s) = stripe_itself s

pub same_itself : (a : ChunkAt) → same_chunk a a ≡ true
same_itself a =
    let b : Chunk = a.chunk in
    and_from _ _ (eq-eqb a.logical a.logical refl)
    (and_from _ _
    (and_from _ _ (eq-eqb b.length b.length refl)
    (and_from _ _ (eq-eqb b.owner b.owner refl)
    (and_from _ _ (eq-eqb b.stripe_len b.stripe_len refl)
    (and_from _ _ (eq-eqb b.kind b.kind refl)
    (and_from _ _ (eq-eqb b.io_align b.io_align refl)
    (and_from _ _ (eq-eqb b.io_width b.io_width refl)
    (and_from _ _ (eq-eqb b.sector_size b.sector_size refl)
    (and_from _ _ (eq-eqb b.num_stripes b.num_stripes refl)
    (and_from _ _ (eq-eqb b.sub_stripes b.sub_stripes refl) (stripe_itself b.stripe))))))))))
    (mirror_itself a.mirror))

-- a chunk of the array is no new one
known : (ids : Ids) (boot : List PlannedChunk) (c : PlannedChunk) → Contains boot c → list_any (same_chunk (chunk_at ids c)) (map (chunk_at ids) boot) ≡ true
known ids [] c h = absurd (omega (arith, h.1))
known ids (d ∷ boot) c h =
    ⊎_elim
    (λ (same : d ≡ c). or_left (same_chunk (chunk_at ids c) (chunk_at ids d)) _ (subst (λ (e : PlannedChunk). same_chunk (chunk_at ids c) (chunk_at ids e) ≡ true) (sym same) (same_itself (chunk_at ids c))))
    (λ (later : Contains boot c). or_right (same_chunk (chunk_at ids c) (chunk_at ids d)) _ (known ids boot c later))
    (contains_cases c d boot h)

-- two that are apart are not the same
not_same : (ids : Ids) (c d : PlannedChunk) → AreApart c d → 1 ≤ c.length → 1 ≤ d.length → same_chunk (chunk_at ids c) (chunk_at ids d) ≡ false
not_same ids c d apart some also =
    let other : 4096 * c.start ≢ 4096 * d.start = λ e. ⊎_elim (λ low. omega (arith, low, e, some)) (λ high. omega (arith, high, e, also)) apart in
    ap (λ (b : Bool). b && (same_body (chunk_body ids c) (chunk_body ids d) && true)) (ne_eqb (4096 * c.start) (4096 * d.start) other)

unknown : (ids : Ids) (boot : List PlannedChunk) (c : PlannedChunk) → 1 ≤ c.length → ((d : PlannedChunk) → Contains boot d → (1 ≤ d.length) × AreApart c d) → list_any (same_chunk (chunk_at ids c)) (map (chunk_at ids) boot) ≡ false
unknown ids [] c some each = refl
unknown ids (d ∷ boot) c some each =
    let here = each d (contains_head d boot) in
    rw (not_same ids c d here.1 some here.0) (unknown ids boot c some (λ e h. each e (contains_tail e d boot h)))

abbrev in_array : List ChunkAt → ChunkAt → Bool → Option (Option ChunkAt)
in_array boot c b = Some (if b then None else Some c)

-- what the item of a chunk is
item_of_chunk : (ids : Ids) (boot : List ChunkAt) (c : PlannedChunk) (key : Key) (body : List ℕ) → length ids.device ≡ 16 → c.start + c.length ≤ 2 ^ 29 → key ≡ make_key FIRST_CHUNK_TREE_OBJECTID CHUNK_ITEM (4096 * c.start) → body ≡ chunk_bytes (chunk_body ids c)
    → chunk_in boot key body ≡ Some (new_chunk boot (chunk_at ids c))
item_of_chunk ids boot c key body long small key_is body_is =
    ap (λ (k : Key). chunk_in boot k body) key_is
    ∙ (ap (λ (b : List ℕ). chunk_in boot (make_key FIRST_CHUNK_TREE_OBJECTID CHUNK_ITEM (4096 * c.start)) b) body_is
    ∙ ap (λ (o : Option ChunkAt). option_map (new_chunk boot) o) (chunk_made (chunk_at ids c) (fits_array ids c long small)))

-- the key and the body of an item
pub item_parts : (i : TreeItem) (items : List TreeItem) (x : Item) (xs : List Item) → map bare_item (i ∷ items) ≡ x ∷ xs → (i.key ≡ x.0) × (i.body ≡ x.1) × (map bare_item items ≡ xs)
item_parts i items x xs is = (ap (λ (z : Item). z.0) (first is), ap (λ (z : Item). z.1) (first is), rest is)
  where
    first : bare_item i ∷ map bare_item items ≡ x ∷ xs → bare_item i ≡ x
    first e = cc

    rest : bare_item i ∷ map bare_item items ≡ x ∷ xs → map bare_item items ≡ xs
    rest e = cc

module _ (ids : Ids) (device : ℕ) (boot : List PlannedChunk) (long : length ids.device ≡ 16) where
  abbrev array : List ChunkAt
  array = map (chunk_at ids) boot

  -- what is known of the chunks that are still to come
  pub record Come (ds cs : List PlannedChunk) : Type 0 where
    pub small : (c : PlannedChunk) → Contains cs c → c.start + c.length ≤ 2 ^ 29
    pub lie : (c : PlannedChunk) → Contains cs c → LiesOn device c
    pub booted : (c : PlannedChunk) → Contains cs c → is_system_role c.role ≡ true → Contains boot c
    pub others : (c d : PlannedChunk) → Contains cs c → is_system_role c.role ≡ false → Contains boot d → (1 ≤ d.length) × AreApart c d
    pub apart : (c d : PlannedChunk) → Contains cs c → is_system_role c.role ≡ false → Contains ds d → AreApart c d
    pub ascend : AllPairs (λ c d. c.start + c.length ≤ d.start) cs

  tail_same : (ds : List PlannedChunk) (c : PlannedChunk) (cs : List PlannedChunk) → Come ds (c ∷ cs) → Come ds cs
  tail_same ds c cs come = record {
    small = λ e h. come.small e (contains_tail e c cs h);
    lie = λ e h. come.lie e (contains_tail e c cs h);
    booted = λ e h. come.booted e (contains_tail e c cs h);
    others = λ e d h. come.others e d (contains_tail e c cs h);
    apart = λ e d h. come.apart e d (contains_tail e c cs h);
    ascend = λ i j d order within. come.ascend (suc i) (suc j) d (omega (arith, order)) (omega (arith, within));
  }

  tail_more : (ds : List PlannedChunk) (c : PlannedChunk) (cs : List PlannedChunk) → Come ds (c ∷ cs) → Come (ds ++ c ∷ []) cs
  tail_more ds c cs come =
      let same : Come ds cs = tail_same ds c cs come in
      record {
        small = same.small;
        lie = same.lie;
        booted = same.booted;
        others = same.others;
        apart = λ e d h f k.
            ⊎_elim (λ (first : Contains ds d). same.apart e d h f first)
            (λ (is : c ≡ d). inr (subst (λ (x : PlannedChunk). x.start + x.length ≤ e.start) is (subst (λ (x : PlannedChunk). c.start + c.length ≤ x.start) h.2 (come.ascend 0 (suc h.0) e (omega arith) (let w = h.1 in omega (arith, w))))))
            (one_more ds c d k);
        ascend = same.ascend;
      }

  abbrev others_of : List PlannedChunk → List PlannedChunk
  others_of cs = filter (λ c. not (is_system_role c.role)) cs

  -- the map after the items, and that nothing is wrong with them
  pub record AreRead (ds cs : List PlannedChunk) (items : List TreeItem) : Type 0 where
    pub map_is : with_items array (map range_for ds) items ≡ map range_for (ds ++ others_of cs)
    pub sound : items_refusals device array (map range_for ds) items ≡ []

  -- an item that adds nothing
  step_same : (ds cs : List PlannedChunk) (i : TreeItem) (items : List TreeItem) → chunk_in array i.key i.body ≡ Some None → AreRead ds cs items → AreRead ds cs (i ∷ items)
  step_same ds cs i items is read = record {
    map_is = ap (λ (o : Option (Option ChunkAt)). with_items array (with_chunk (map range_for ds) o) items) is ∙ read.map_is;
    sound =
        ap (λ (o : Option (Option ChunkAt)). chunk_item_refusals device (map range_for ds) i.key.offset o ++ items_refusals device array (with_chunk (map range_for ds) o) items) is ∙ read.sound;
  }

  -- an item that adds a chunk
  step_more : (ds cs : List PlannedChunk) (c : PlannedChunk) (i : TreeItem) (items : List TreeItem) → chunk_in array i.key i.body ≡ Some (Some (chunk_at ids c)) → LiesOn device c → ((d : PlannedChunk) → Contains ds d → AreApart c d)
      → AreRead (ds ++ c ∷ []) cs items → others_of (c ∷ cs) ≡ c ∷ others_of cs → AreRead ds (c ∷ cs) (i ∷ items)
  step_more ds cs c i items is lies apart read other = record {
    map_is =
        ap (λ (o : Option (Option ChunkAt)). with_items array (with_chunk (map range_for ds) o) items) is
        ∙ (ap (λ (ranges : List MapRange). with_items array ranges items) (range_more ds c)
        ∙ (read.map_is ∙ ap (map range_for) (append_assoc ds (c ∷ []) (others_of cs) ∙ ap (λ (xs : List PlannedChunk). ds ++ xs) (sym other))));
    sound =
        ap (λ (o : Option (Option ChunkAt)). chunk_item_refusals device (map range_for ds) i.key.offset o ++ items_refusals device array (with_chunk (map range_for ds) o) items) is
        ∙ (ap (λ (rs : List BtrRefusal). rs ++ items_refusals device array (map range_for ds ++ range_for c ∷ []) items) (beside_sound ids device c ds lies apart)
        ∙ (ap (λ (ranges : List MapRange). items_refusals device array ranges items) (range_more ds c) ∙ read.sound));
  }

  others_on : (c : PlannedChunk) (cs : List PlannedChunk) → is_system_role c.role ≡ false → others_of (c ∷ cs) ≡ c ∷ others_of cs
  others_on c cs f = ap (λ (b : Bool). cond (not b) (c ∷ others_of cs) (others_of cs)) f

  others_off : (c : PlannedChunk) (cs : List PlannedChunk) → is_system_role c.role ≡ true → others_of (c ∷ cs) ≡ others_of cs
  others_off c cs t = ap (λ (b : Bool). cond (not b) (c ∷ others_of cs) (others_of cs)) t

  pub chunks_read : (ds cs : List PlannedChunk) (items : List TreeItem) → map bare_item items ≡ map (chunk_item ids) cs → Come ds cs → AreRead ds cs items
  chunks_read ds [] [] are come = record { map_is = ap (map range_for) (sym (append-nil ds)); sound = refl }
  chunks_read ds [] (i ∷ items) are come = absurd (cc are)
  chunks_read ds (c ∷ cs) [] are come = absurd (cc are)
  chunks_read ds (c ∷ cs) (i ∷ items) are come =
      let parts = item_parts i items (chunk_item ids c) (map (chunk_item ids) cs) are in
      let head : Contains (c ∷ cs) c = contains_head c cs in
      let is : chunk_in array i.key i.body ≡ Some (new_chunk array (chunk_at ids c)) = item_of_chunk ids array c i.key i.body long (come.small c head) parts.0 parts.1 in
      ⊎_elim
      (λ (t : is_system_role c.role ≡ true).
      let nothing : chunk_in array i.key i.body ≡ Some None = is ∙ ap (in_array array (chunk_at ids c)) (known ids boot c (come.booted c head t)) in
      let rest : AreRead ds cs items = chunks_read ds cs items parts.2 (tail_same ds c cs come) in
      step_same ds (c ∷ cs) i items nothing (record { map_is = rest.map_is ∙ ap (λ (xs : List PlannedChunk). map range_for (ds ++ xs)) (sym (others_off c cs t)); sound = rest.sound }))
      (λ (f : is_system_role c.role ≡ false).
      let lies = come.lie c head in
      let new : chunk_in array i.key i.body ≡ Some (Some (chunk_at ids c)) = is ∙ ap (in_array array (chunk_at ids c)) (unknown ids boot c lies.some (λ d h. come.others c d head f h)) in
      step_more ds cs c i items new lies (λ d h. come.apart c d head f h) (chunks_read (ds ++ c ∷ []) cs items parts.2 (tail_more ds c cs come)) (others_on c cs f))
      (cases_Bool (is_system_role c.role))

  -- the same with the device's item in front
  pub tree_read : (blocks : ℕ) (ds cs : List PlannedChunk) (items : List TreeItem) → map bare_item items ≡ chunk_items ids blocks cs → Come ds cs → AreRead ds cs items
  tree_read blocks ds cs [] are come = absurd (cc are)
  tree_read blocks ds cs (i ∷ items) are come =
      let parts = item_parts i items (make_key DEV_ITEMS_OBJECTID DEV_ITEM 1, device_bytes (device_body ids blocks cs)) (map (chunk_item ids) cs) are in
      step_same ds cs i items (ap (λ (k : Key). chunk_in array k i.body) parts.0) (chunks_read ds cs items parts.2 come)
