-- The tests of block groups tell what is asked of them.
use Rattle.btr_check_fields.proofs.Imports.{◌≡◌, ℕ, ◌==◌, Bool, true, false, List, [], ◌∷◌, map, Option, Some, None, if◌then◌else◌, refl, sym, ap, subst, ◌∙◌, ⊎_elim, arith, Decides, Contains, option_map, cases_Bool, eqb-true, Decides-and, Decides-eqb, Decides-like, not_from_Decides, All-contains, BLOCK_GROUP_ITEM, FIRST_CHUNK_TREE_OBJECTID, Key, Item, block_group_of, BlockGroup, ChunkAt, AreGroupsOf, IsGroupOf, object_of, Answers, FailsTest, AreReadOf, chunk_of, group_at, group_of, has_group, is_group_of, GroupAt}
use Rattle.std.specs.List.{All}
use Rattle.btr_check_fields.specs.declared.found.ChunkUse.{ChunkUse}
use Rattle.btr_check_fields.proofs.Listing.{all_from_contains, at_head, decides_some, head_or_tail, in_tail, not_none, of_item, read_of, some_same}

-- what a block group was read of
pub record IsRead (i : Item) (g : GroupAt) : Type 0 where
  pub start : i.0.objectid ≡ g.start
  pub length : i.0.offset ≡ g.length
  pub kind : i.0.kind ≡ BLOCK_GROUP_ITEM
  pub body : block_group_of i.1 ≡ Some g.group

abbrev group_by : Item → Option BlockGroup → Option GroupAt
group_by i body = option_map (λ group. record { start = i.0.objectid; length = i.0.offset; group = group }) body

read_body : (i : Item) (g : GroupAt) (body : Option BlockGroup) → i.0.kind ≡ BLOCK_GROUP_ITEM → block_group_of i.1 ≡ body → group_by i body ≡ Some g → IsRead i g
read_body i g None kind own is = absurd (not_none g is)
read_body i g (Some group) kind own is =
    let told : GroupAt = record { start = i.0.objectid; length = i.0.offset; group = group } in
    let same : told ≡ g = some_same told g is in
    record {
      start = ap (λ (x : GroupAt). x.start) same;
      length = ap (λ (x : GroupAt). x.length) same;
      kind = kind;
      body = own ∙ ap (λ (x : GroupAt). Some x.group) same;
    }

pub is_read : (i : Item) (g : GroupAt) → group_at i ≡ Some g → IsRead i g
is_read i g is =
    ⊎_elim
    (λ (is_so : (i.0.kind == BLOCK_GROUP_ITEM) ≡ true).
    read_body i g (block_group_of i.1) (eqb-true i.0.kind BLOCK_GROUP_ITEM is_so) refl
    (sym (ap (λ (b : Bool). if b then group_by i (block_group_of i.1) else None) is_so) ∙ is))
    (λ (not_so : (i.0.kind == BLOCK_GROUP_ITEM) ≡ false).
    absurd (not_none g (sym (ap (λ (b : Bool). if b then group_by i (block_group_of i.1) else None) not_so) ∙ is)))
    (cases_Bool (i.0.kind == BLOCK_GROUP_ITEM))

abbrev Parts : ChunkUse → GroupAt → Type 0
Parts u g =
    (g.start ≡ u.chunk.logical)
    × ((g.length ≡ u.chunk.chunk.length)
    × ((g.group.used ≡ u.used) × ((g.group.chunk_objectid ≡ FIRST_CHUNK_TREE_OBJECTID) × (g.group.flags ≡ u.chunk.chunk.kind))))

decides_parts : (u : ChunkUse) (g : GroupAt) → Decides (is_group_of u g) (Parts u g)
decides_parts u g =
    Decides-and _ _ (Decides-eqb g.start u.chunk.logical)
    (Decides-and _ _ (Decides-eqb g.length u.chunk.chunk.length)
    (Decides-and _ _ (Decides-eqb g.group.used u.used) (Decides-and _ _ (Decides-eqb g.group.chunk_objectid FIRST_CHUNK_TREE_OBJECTID) (Decides-eqb g.group.flags u.chunk.chunk.kind))))

abbrev key_at : ℕ → ℕ → Key
key_at start length = record { objectid = start; kind = BLOCK_GROUP_ITEM; offset = length }

abbrev group_with : ℕ → ℕ → ℕ → BlockGroup
group_with used objectid flags = record { used = used; chunk_objectid = objectid; flags = flags }

same_key : (k : Key) (a n : ℕ) → k.objectid ≡ a → k.kind ≡ BLOCK_GROUP_ITEM → k.offset ≡ n → k ≡ key_at a n
same_key k a n x y z = let same : record { objectid = k.objectid; kind = k.kind; offset = k.offset } ≡ key_at a n = cc in same

same_group : (g : BlockGroup) (a b c : ℕ) → g.used ≡ a → g.chunk_objectid ≡ b → g.flags ≡ c → g ≡ group_with a b c
same_group g a b c x y z = let same : record { used = g.used; chunk_objectid = g.chunk_objectid; flags = g.flags } ≡ group_with a b c = cc in same

pub decides_group : (u : ChunkUse) (i : Item) (g : GroupAt) → IsRead i g → Decides (is_group_of u g) (IsGroupOf u.used u.chunk i)
decides_group u i g read = Decides-like (is_group_of u g) to from (decides_parts u g)
  where
    to : Parts u g → IsGroupOf u.used u.chunk i
    to (start, (long, (used, (objectid, flags)))) = record {
      key = same_key i.0 u.chunk.logical u.chunk.chunk.length (read.start ∙ start) read.kind (read.length ∙ long);
      body = read.body ∙ ap Some (same_group g.group u.used FIRST_CHUNK_TREE_OBJECTID u.chunk.chunk.kind used objectid flags);
    }

    from : IsGroupOf u.used u.chunk i → Parts u g
    from is =
        let same : g.group ≡ group_with u.used FIRST_CHUNK_TREE_OBJECTID u.chunk.chunk.kind = some_same _ _ (sym read.body ∙ is.body) in (
          sym read.start ∙ ap (λ (k : Key). k.objectid) is.key,
          (
            sym read.length ∙ ap (λ (k : Key). k.offset) is.key,
            (ap (λ (x : BlockGroup). x.used) same, (ap (λ (x : BlockGroup). x.chunk_objectid) same, ap (λ (x : BlockGroup). x.flags) same)),
          ),
        )

-- ---- all block groups and all chunks

in_map : (us : List ChunkUse) (u : ChunkUse) → Contains us u → Contains (map chunk_of us) u.chunk
in_map (v ∷ us) u h =
    ⊎_elim (λ (here : v ≡ u). subst (λ (c : ChunkAt). Contains (v.chunk ∷ map chunk_of us) c) (ap chunk_of here) (at_head v.chunk (map chunk_of us)))
    (λ (there : Contains us u). in_tail v.chunk (map chunk_of us) u.chunk (in_map us u there)) (head_or_tail v us u h)
in_map [] u (k, low, is) = absurd (omega (arith, low))

of_map : (us : List ChunkUse) (c : ChunkAt) → Contains (map chunk_of us) c → (u : ChunkUse) × Contains us u × (u.chunk ≡ c)
of_map (v ∷ us) c h =
    ⊎_elim (λ (here : v.chunk ≡ c). (v, at_head v us, here))
    (λ (there : Contains (map chunk_of us) c). let (u, in_, is) = of_map us c there in (u, in_tail v us u in_, is))
    (head_or_tail v.chunk (map chunk_of us) c h)
of_map [] c (k, low, is) = absurd (omega (arith, low))

module _ (used : ChunkAt → ℕ) (chunks : List ChunkUse) (items : List Item) (groups : List GroupAt) (told : All (λ u. u.used ≡ used u.chunk) chunks) (read : AreReadOf group_at items groups) where
  abbrev HasGroup : ChunkAt → Type 0
  HasGroup c = (i : Item) × Contains items i × IsGroupOf (used c) c i

  abbrev HasChunk : Item → Type 0
  HasChunk i = (c : ChunkAt) × Contains (map chunk_of chunks) c × IsGroupOf (used c) c i

  right : (u : ChunkUse) → Contains chunks u → u.used ≡ used u.chunk
  right u h = All-contains (λ (v : ChunkUse). v.used ≡ used v.chunk) chunks u told h

  -- by the item, not by what was read of it
  decides_use : (u : ChunkUse) (i : Item) (g : GroupAt) → Contains chunks u → group_at i ≡ Some g → Decides (is_group_of u g) (IsGroupOf (used u.chunk) u.chunk i)
  decides_use u i g h is = subst (λ (n : ℕ). Decides (is_group_of u g) (IsGroupOf n u.chunk i)) (right u h) (decides_group u i g (is_read i g is))

  -- a block group was read of an item that is the chunk's
  abbrev OfItem : ChunkUse → GroupAt → Type 0
  OfItem u g = (i : Item) × Contains items i × (group_at i ≡ Some g) × IsGroupOf (used u.chunk) u.chunk i

  decides_item : (u : ChunkUse) → Contains chunks u → (g : GroupAt) → Contains groups g → Decides (is_group_of u g) (OfItem u g)
  decides_item u h g in_ =
      let (i, there, is) = of_item group_at items groups read g in_ in
      ((λ is_so. (i, there, is, (decides_use u i g h is).0 is_so)), (λ some. let (j, at, was, own) = some in (decides_use u j g h was).1 own))

  pub decides_has : (u : ChunkUse) → Contains chunks u → Decides (has_group groups u) (HasGroup u.chunk)
  decides_has u h = Decides-like (has_group groups u) to from (decides_some (is_group_of u) (OfItem u) groups (decides_item u h))
    where
      to : ((g : GroupAt) × Contains groups g × OfItem u g) → HasGroup u.chunk
      to (g, in_, (i, there, is, own)) = (i, there, own)

      from : HasGroup u.chunk → (g : GroupAt) × Contains groups g × OfItem u g
      from (i, there, own) = let (g, in_, is) = read_of group_at items groups read i there in (g, in_, (i, there, is, own))

  pub decides_of : (i : Item) (g : GroupAt) → group_at i ≡ Some g → Decides (group_of chunks g) (HasChunk i)
  decides_of i g is =
      Decides-like (group_of chunks g) to from (decides_some (λ u. is_group_of u g) (λ u. IsGroupOf (used u.chunk) u.chunk i) chunks (λ u h. decides_use u i g h is))
    where
      to : ((u : ChunkUse) × Contains chunks u × IsGroupOf (used u.chunk) u.chunk i) → HasChunk i
      to (u, h, own) = (u.chunk, in_map chunks u h, own)

      from : HasChunk i → (u : ChunkUse) × Contains chunks u × IsGroupOf (used u.chunk) u.chunk i
      from (c, h, own) = let (u, in_, is) = of_map chunks c h in (u, in_, subst (λ (d : ChunkAt). IsGroupOf (used d) d i) (sym is) own)

  pub all_right : All (λ u. has_group groups u ≡ true) chunks → All (λ g. group_of chunks g ≡ true) groups → (a : ℕ) → AreGroupsOf used (map chunk_of chunks) items a
  all_right chunks_right groups_right = λ a. record {
    each = all_from_contains (λ (i : Item). object_of i ≡ a → HasChunk i) items (λ i h at.
        let (g, in_, is) = read_of group_at items groups read i h in
        (decides_of i g is).0 (All-contains (λ (x : GroupAt). group_of chunks x ≡ true) groups g groups_right in_));
    whole = all_from_contains (λ (c : ChunkAt). c.logical ≡ a → HasGroup c) (map chunk_of chunks) (λ c h at.
        let (u, in_, is) = of_map chunks c h in
        subst HasGroup is ((decides_has u in_).0 (All-contains (λ (x : ChunkUse). has_group groups x ≡ true) chunks u chunks_right in_)));
  }

  pub chunk_wrong : (a : ℕ) → FailsTest (λ (u : ChunkUse). u.chunk.logical) (has_group groups) chunks a → ¬ AreGroupsOf used (map chunk_of chunks) items a
  chunk_wrong a (u, h, at, not_so) are =
      not_from_Decides (has_group groups u) (decides_has u h) not_so (All-contains (λ c. c.logical ≡ a → HasGroup c) (map chunk_of chunks) u.chunk are.whole (in_map chunks u h) at)

  pub group_wrong : (a : ℕ) → FailsTest (λ (g : GroupAt). g.start) (group_of chunks) groups a → ¬ AreGroupsOf used (map chunk_of chunks) items a
  group_wrong a (g, h, at, not_so) are =
      let (i, there, is) = of_item group_at items groups read g h in
      not_from_Decides (group_of chunks g) (decides_of i g is) not_so (All-contains (λ j. object_of j ≡ a → HasChunk j) items i are.each there ((is_read i g is).start ∙ at))

  -- what is answered where each chunk has its block group
  pub answers_groups : (found : Option ℕ) → All (λ u. has_group groups u ≡ true) chunks → Answers (All (λ g. group_of chunks g ≡ true) groups) (FailsTest (λ (g : GroupAt). g.start) (group_of chunks) groups) found
      → Answers ((a : ℕ) → AreGroupsOf used (map chunk_of chunks) items a) (λ a. ¬ AreGroupsOf used (map chunk_of chunks) items a) found
  answers_groups None has right = all_right has right
  answers_groups (Some a) has fails = group_wrong a fails
