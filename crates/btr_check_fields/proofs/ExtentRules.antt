-- The tests of device extents tell what is asked of them.
use Rattle.btr_check_fields.proofs.Imports.{◌≡◌, ℕ, ◌==◌, ◌⊎◌, inl, inr, Bool, true, false, List, [], ◌∷◌, Option, Some, None, if◌then◌else◌, refl, sym, ap, subst, ◌∙◌, ⊎_elim, arith, Decides, Contains, option_map, cases_Bool, eq-eqb, eqb-true, false≢true, Decides-and, Decides-eqb, Decides-like, Decides-or, not_from_Decides, All-cons, All-contains, All-head, All-nil, All-tail, DEV_EXTENT, CHUNK_TREE, FIRST_CHUNK_TREE_OBJECTID, Key, Item, dev_extent_of, DevExtent, Stripe, ChunkAt, AreExtentsOf, HasExtents, IsExtentOf, IsOfChunk, second_of, stripes_of, Answers, FailsTest, AreReadOf, extent_at, extent_of, has_extent, has_extents, has_second, is_extent_of, is_of_chunk, is_of_second, ExtentAt}
use Rattle.std.specs.List.{All}
use Rattle.btr_check_fields.proofs.Listing.{all_from_contains, at_head, decides_some, head_or_tail, in_tail, not_none, of_item, read_of, some_same}

-- what a device extent was read of
pub record IsRead (i : Item) (e : ExtentAt) : Type 0 where
  pub devid : i.0.objectid ≡ e.devid
  pub offset : i.0.offset ≡ e.offset
  pub kind : i.0.kind ≡ DEV_EXTENT
  pub body : dev_extent_of i.1 ≡ Some e.extent

abbrev extent_by : Item → Option DevExtent → Option ExtentAt
extent_by i body = option_map (λ extent. record { devid = i.0.objectid; offset = i.0.offset; extent = extent }) body

read_body : (i : Item) (e : ExtentAt) (body : Option DevExtent) → i.0.kind ≡ DEV_EXTENT → dev_extent_of i.1 ≡ body → extent_by i body ≡ Some e → IsRead i e
read_body i e None kind own is = absurd (not_none e is)
read_body i e (Some extent) kind own is =
    let told : ExtentAt = record { devid = i.0.objectid; offset = i.0.offset; extent = extent } in
    let same : told ≡ e = some_same told e is in
    record {
      devid = ap (λ (x : ExtentAt). x.devid) same;
      offset = ap (λ (x : ExtentAt). x.offset) same;
      kind = kind;
      body = own ∙ ap (λ (x : ExtentAt). Some x.extent) same;
    }

pub is_read : (i : Item) (e : ExtentAt) → extent_at i ≡ Some e → IsRead i e
is_read i e is =
    ⊎_elim
    (λ (is_so : (i.0.kind == DEV_EXTENT) ≡ true).
    read_body i e (dev_extent_of i.1) (eqb-true i.0.kind DEV_EXTENT is_so) refl (sym (ap (λ (b : Bool). if b then extent_by i (dev_extent_of i.1) else None) is_so) ∙ is))
    (λ (not_so : (i.0.kind == DEV_EXTENT) ≡ false). absurd (not_none e (sym (ap (λ (b : Bool). if b then extent_by i (dev_extent_of i.1) else None) not_so) ∙ is)))
    (cases_Bool (i.0.kind == DEV_EXTENT))

abbrev Parts : ChunkAt → Stripe → ExtentAt → Type 0
Parts c s e =
    (e.devid ≡ s.devid)
    × ((e.offset ≡ s.offset)
    × ((e.extent.chunk_tree ≡ CHUNK_TREE)
    × ((e.extent.chunk_objectid ≡ FIRST_CHUNK_TREE_OBJECTID) × ((e.extent.chunk_offset ≡ c.logical) × (e.extent.length ≡ c.chunk.length)))))

decides_parts : (c : ChunkAt) (s : Stripe) (e : ExtentAt) → Decides (is_extent_of c s e) (Parts c s e)
decides_parts c s e =
    Decides-and _ _ (Decides-eqb e.devid s.devid)
    (Decides-and _ _ (Decides-eqb e.offset s.offset)
    (Decides-and _ _ (Decides-eqb e.extent.chunk_tree CHUNK_TREE)
    (Decides-and _ _ (Decides-eqb e.extent.chunk_objectid FIRST_CHUNK_TREE_OBJECTID)
    (Decides-and _ _ (Decides-eqb e.extent.chunk_offset c.logical) (Decides-eqb e.extent.length c.chunk.length)))))

abbrev key_at : ℕ → ℕ → Key
key_at devid offset = record { objectid = devid; kind = DEV_EXTENT; offset = offset }

same_key : (k : Key) (a n : ℕ) → k.objectid ≡ a → k.kind ≡ DEV_EXTENT → k.offset ≡ n → k ≡ key_at a n
same_key k a n x y z = let same : record { objectid = k.objectid; kind = k.kind; offset = k.offset } ≡ key_at a n = cc in same

pub decides_extent : (c : ChunkAt) (s : Stripe) (i : Item) (e : ExtentAt) → IsRead i e → Decides (is_extent_of c s e) (IsExtentOf c s i)
decides_extent c s i e read = Decides-like (is_extent_of c s e) to from (decides_parts c s e)
  where
    to : Parts c s e → IsExtentOf c s i
    to (devid, (offset, (tree, (objectid, (logical, long))))) = record {
      key = same_key i.0 s.devid s.offset (read.devid ∙ devid) read.kind (read.offset ∙ offset);
      extent = e.extent;
      extent_is = read.body;
      chunk = (tree, objectid, logical);
      length = long;
    }

    from : IsExtentOf c s i → Parts c s e
    from is =
        let same : e.extent ≡ is.extent = some_same _ _ (sym read.body ∙ is.extent_is) in (
          sym read.devid ∙ ap (λ (k : Key). k.objectid) is.key,
          (
            sym read.offset ∙ ap (λ (k : Key). k.offset) is.key,
            (
              ap (λ (x : DevExtent). x.chunk_tree) same ∙ is.chunk.0,
              (ap (λ (x : DevExtent). x.chunk_objectid) same ∙ is.chunk.1, (ap (λ (x : DevExtent). x.chunk_offset) same ∙ is.chunk.2, ap (λ (x : DevExtent). x.length) same ∙ is.length)),
            ),
          ),
        )

-- ---- all device extents and all chunks

module _ (chunks : List ChunkAt) (items : List Item) (extents : List ExtentAt) (read : AreReadOf extent_at items extents) where
  abbrev HasOne : ChunkAt → Stripe → Type 0
  HasOne c s = (i : Item) × Contains items i × IsExtentOf c s i

  -- a device extent was read of an item that is the stripe's
  abbrev OfItem : ChunkAt → Stripe → ExtentAt → Type 0
  OfItem c s e = (i : Item) × Contains items i × (extent_at i ≡ Some e) × IsExtentOf c s i

  decides_one : (c : ChunkAt) (s : Stripe) → Decides (has_extent extents c s) (HasOne c s)
  decides_one c s = Decides-like (has_extent extents c s) to from (decides_some (is_extent_of c s) (OfItem c s) extents each)
    where
      each : (e : ExtentAt) → Contains extents e → Decides (is_extent_of c s e) (OfItem c s e)
      each e in_ =
          let (i, there, is) = of_item extent_at items extents read e in_ in
          ((λ is_so. (i, there, is, (decides_extent c s i e (is_read i e is)).0 is_so)), (λ some. let (j, at, was, own) = some in (decides_extent c s j e (is_read j e was)).1 own))

      to : ((e : ExtentAt) × Contains extents e × OfItem c s e) → HasOne c s
      to (e, in_, (i, there, is, own)) = (i, there, own)

      from : HasOne c s → (e : ExtentAt) × Contains extents e × OfItem c s e
      from (i, there, own) = let (e, in_, is) = read_of extent_at items extents read i there in (e, in_, (i, there, is, own))

  decides_second : (c : ChunkAt) (s : Option Stripe) → Decides (has_second extents c s) (All (HasOne c) (second_of s))
  decides_second c None = (λ _. All-nil (HasOne c), λ _. refl)
  decides_second c (Some s) = Decides-like {P = HasOne c s} (has_extent extents c s) (λ is. All-cons (HasOne c) s [] is (All-nil (HasOne c))) (All-head (HasOne c) s []) (decides_one c s)

  pub decides_extents : (c : ChunkAt) → Decides (has_extents extents c) (HasExtents items c)
  decides_extents c =
      Decides-like {P = HasOne c c.chunk.stripe × All (HasOne c) (second_of c.mirror)} (has_extents extents c) (λ both. All-cons (HasOne c) c.chunk.stripe (second_of c.mirror) both.0 both.1)
      (λ all. (All-head (HasOne c) c.chunk.stripe (second_of c.mirror) all, All-tail (HasOne c) c.chunk.stripe (second_of c.mirror) all))
      (Decides-and _ _ (decides_one c c.chunk.stripe) (decides_second c c.mirror))

  abbrev OfStripe : ChunkAt → Item → Type 0
  OfStripe c i = (s : Stripe) × Contains (stripes_of c) s × IsExtentOf c s i

  of_second : (c : ChunkAt) (s : Option Stripe) (i : Item) (e : ExtentAt) → IsRead i e → Decides (is_of_second c s e) ((x : Stripe) × Contains (second_of s) x × IsExtentOf c x i)
  of_second c None i e read = ((λ not_so. absurd (false≢true not_so)), (λ some. let (x, (k, low, at), own) = some in absurd (omega (arith, low))))
  of_second c (Some s) i e read =
      Decides-like {P = IsExtentOf c s i} {Q = (x : Stripe) × Contains (s ∷ []) x × IsExtentOf c x i} (is_extent_of c s e) (λ own. (s, at_head s [], own))
      (λ some. let (x, h, own) = some in ⊎_elim (λ (here : s ≡ x). subst (λ (y : Stripe). IsExtentOf c y i) (sym here) own) (λ (there : Contains [] x). let (k, low, at) = there in absurd (omega (arith, low))) (head_or_tail s [] x h))
      (decides_extent c s i e read)

  abbrev OfSecond : ChunkAt → Item → Type 0
  OfSecond c i = (x : Stripe) × Contains (second_of c.mirror) x × IsExtentOf c x i

  of_stripe : (c : ChunkAt) (i : Item) (e : ExtentAt) → IsRead i e → Decides (is_of_chunk c e) (OfStripe c i)
  of_stripe c i e read = Decides-like (is_of_chunk c e) to from (Decides-or _ _ (decides_extent c c.chunk.stripe i e read) (of_second c c.mirror i e read))
    where
      to : IsExtentOf c c.chunk.stripe i ⊎ OfSecond c i → OfStripe c i
      to (inl own) = (c.chunk.stripe, at_head c.chunk.stripe (second_of c.mirror), own)
      to (inr (x, h, own)) = (x, in_tail c.chunk.stripe (second_of c.mirror) x h, own)

      from : OfStripe c i → IsExtentOf c c.chunk.stripe i ⊎ OfSecond c i
      from (x, h, own) =
          ⊎_elim (λ (here : c.chunk.stripe ≡ x). inl (subst (λ (y : Stripe). IsExtentOf c y i) (sym here) own)) (λ (there : Contains (second_of c.mirror) x). inr (x, there, own))
          (head_or_tail c.chunk.stripe (second_of c.mirror) x h)

  pub decides_of : (i : Item) (e : ExtentAt) → extent_at i ≡ Some e → Decides (extent_of chunks e) (IsOfChunk chunks i)
  decides_of i e is =
      Decides-like {P = (c : ChunkAt) × Contains chunks c × OfStripe c i} {Q = IsOfChunk chunks i} (extent_of chunks e) (λ some. let (c, h, (s, at, own)) = some in (c, s, h, at, own)) (λ some. let (c, s, h, at, own) = some in (c, h, (s, at, own)))
      (decides_some (λ c. is_of_chunk c e) (λ c. OfStripe c i) chunks (λ c h. of_stripe c i e (is_read i e is)))

  pub all_right : All (λ c. has_extents extents c ≡ true) chunks → All (λ e. extent_of chunks e ≡ true) extents → (a : ℕ) → AreExtentsOf chunks items a
  all_right chunks_right extents_right = λ a. record {
    each = all_from_contains (λ (j : Item). j.0.offset ≡ a → IsOfChunk chunks j) items (λ i h at.
        let (e, in_, is) = read_of extent_at items extents read i h in
        (decides_of i e is).0 (All-contains (λ (x : ExtentAt). extent_of chunks x ≡ true) extents e extents_right in_));
    whole = all_from_contains (λ (d : ChunkAt). d.logical ≡ a → HasExtents items d) chunks (λ c h at. (decides_extents c).0 (All-contains (λ (x : ChunkAt). has_extents extents x ≡ true) chunks c chunks_right h));
  }

  pub chunk_wrong : (a : ℕ) → FailsTest (λ (c : ChunkAt). c.logical) (has_extents extents) chunks a → ¬ AreExtentsOf chunks items a
  chunk_wrong a (c, h, at, not_so) are =
      not_from_Decides (has_extents extents c) (decides_extents c) not_so (All-contains (λ d. d.logical ≡ a → HasExtents items d) chunks c are.whole h at)

  pub extent_wrong : (a : ℕ) → FailsTest (λ (e : ExtentAt). e.offset) (extent_of chunks) extents a → ¬ AreExtentsOf chunks items a
  extent_wrong a (e, h, at, not_so) are =
      let (i, there, is) = of_item extent_at items extents read e h in
      not_from_Decides (extent_of chunks e) (decides_of i e is) not_so (All-contains (λ (j : Item). j.0.offset ≡ a → IsOfChunk chunks j) items i are.each there ((is_read i e is).offset ∙ at))

  -- what is answered where each stripe has its device extent
  pub answers_extents : (found : Option ℕ) → All (λ c. has_extents extents c ≡ true) chunks → Answers (All (λ e. extent_of chunks e ≡ true) extents) (FailsTest (λ (e : ExtentAt). e.offset) (extent_of chunks) extents) found
      → Answers ((a : ℕ) → AreExtentsOf chunks items a) (λ a. ¬ AreExtentsOf chunks items a) found
  answers_extents None has right = all_right has right
  answers_extents (Some a) has fails = extent_wrong a fails

-- a device extent that is off its grammar is that of no stripe
pub off_grammar : (chunks : List ChunkAt) (items : List Item) (a : ℕ) → ((i : Item) → Contains items i → i.0.kind ≡ DEV_EXTENT) → (i : Item) → Contains items i → i.0.offset ≡ a → extent_at i ≡ None → ¬ AreExtentsOf chunks items a
off_grammar chunks items a kinds i h at none are =
    let (c, s, in_chunks, in_stripes, own) = All-contains (λ (j : Item). j.0.offset ≡ a → IsOfChunk chunks j) items i are.each h at in
    not_none _ (sym none ∙ (ap (λ (b : Bool). if b then extent_by i (dev_extent_of i.1) else None) (eq-eqb i.0.kind DEV_EXTENT (kinds i h)) ∙ ap (extent_by i) own.extent_is))
