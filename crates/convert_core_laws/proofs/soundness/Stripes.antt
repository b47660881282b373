-- The chunks of a converted volume lie apart, and its device extents are their stripes.
use Rattle.convert_core_laws.proofs.Imports.{◌≡◌, ◌≤◌, ℕ, ◌+◌, ◌*◌, ◌^◌, inl, inr, Bool, true, false, not, List, [], ◌∷◌, map, filter, get_or, refl, sym, ap, subst, ◌∙◌, ⊎_elim, arith, eqb, All, AllPairs, Contains, cases_Bool, not_from_false, append-nil, All-map, Contains-append_cases, Contains-append_left, Contains-append_right, All-cons, All-nil, AllPairs-filter, flat_map, DEV_EXTENT, Image, Ids, Item, IsChunkOn, IsExtentOf, dev_extents, chunk_span, IsChunkTreeItem, IsOfChunk, IsStripe, KeepsChunks, stripe_spans, stripes_of, Recount, Span, dev_extents_read_back, Device, ChunkAt, IsMaking, Making, new_ids, TreeRoots, blocks_few, is_system_role, NewIdsFit, IsNewVolume, boot_part, chunk_at, other_part, super_for, all_at, pairs_append, pairs_map, two_cases, from_filter, from_map, in_filter, in_map, at_head, all_from_contains, dev_extent_body, chunk_item, dev_extent_item, device_items, AreIds, TreeNode, chunk_ends, IsChunk, role_of, usable_end, PlannedChunk, Options, ConvertedChunksAreSound, recount_for, each_at, pairs_at, Stripe}
use Rattle.btr_check_rules.specs.Groups.{Apart, HasExtents}
use Rattle.btr_reader.specs.btr_space_items.DevExtent.{dev_extent_layout}
use Rattle.convert_core_laws.proofs.soundness.Lists.{filter_all}
use Rattle.convert_core_laws.proofs.soundness.Recounting.{device_is, in_parts, total_is, volume_for}

-- ---- chunks lie apart

abbrev IsBelow : PlannedChunk → PlannedChunk → Type 0
IsBelow c d = c.start + c.length ≤ d.start

-- where a chunk lies, by its addresses and on the device
abbrev span_for : PlannedChunk → Span
span_for c = record { start = 4096 * c.start; length = 4096 * c.length }

abbrev AreApart : PlannedChunk → PlannedChunk → Type 0
AreApart c d = Apart (span_for c) (span_for d)

below_apart : (c d : PlannedChunk) → IsBelow c d → AreApart c d
below_apart c d low = inl (omega (arith, low))

above_apart : (c d : PlannedChunk) → IsBelow d c → AreApart c d
above_apart c d low = inr (omega (arith, low))

-- a chunk of the plan is in one of the two parts
pub in_parts_from : (cs : List PlannedChunk) (c : PlannedChunk) → Contains cs c → Contains (in_parts cs) c
in_parts_from cs c h =
    ⊎_elim
    (λ (t : is_system_role c.role ≡ true). Contains-append_left (boot_part cs) (other_part cs) c (in_filter (λ (d : PlannedChunk). is_system_role d.role) cs c h t))
    (λ (f : is_system_role c.role ≡ false). Contains-append_right (boot_part cs) (other_part cs) c (in_filter (λ (d : PlannedChunk). not (is_system_role d.role)) cs c h (not_from_false (is_system_role c.role) f)))
    (cases_Bool (is_system_role c.role))

pub from_parts : (cs : List PlannedChunk) (c : PlannedChunk) → Contains (in_parts cs) c → Contains cs c
from_parts cs c h =
    ⊎_elim
    (λ (k : Contains (boot_part cs) c). (from_filter (λ (d : PlannedChunk). is_system_role d.role) cs c k).0)
    (λ (k : Contains (other_part cs) c). (from_filter (λ (d : PlannedChunk). not (is_system_role d.role)) cs c k).0)
    (Contains-append_cases (boot_part cs) (other_part cs) c h)

parts_apart : (cs : List PlannedChunk) → AllPairs IsBelow cs → AllPairs AreApart (in_parts cs)
parts_apart cs ascend =
    pairs_append AreApart (boot_part cs) (other_part cs)
    (λ i j d l h. below_apart (get_or (boot_part cs) i d) (get_or (boot_part cs) j d) (AllPairs-filter IsBelow (λ (c : PlannedChunk). is_system_role c.role) cs ascend i j d l h))
    (λ i j d l h. below_apart (get_or (other_part cs) i d) (get_or (other_part cs) j d) (AllPairs-filter IsBelow (λ (c : PlannedChunk). not (is_system_role c.role)) cs ascend i j d l h))
    (λ c h. all_from_contains (AreApart c) (other_part cs) (λ d k.
    let first = from_filter (λ (e : PlannedChunk). is_system_role e.role) cs c h in
    let second = from_filter (λ (e : PlannedChunk). not (is_system_role e.role)) cs d k in
    ⊎_elim
    (λ (same : c ≡ d). absurd (differ (is_system_role d.role) (subst (λ (e : PlannedChunk). is_system_role e.role ≡ true) same first.1) second.1))
    (λ apart. ⊎_elim (λ low. below_apart c d low) (λ high. above_apart c d high) apart)
    (two_cases IsBelow cs c d ascend first.0 second.0)))
  where
    differ : (b : Bool) → b ≡ true → not b ≡ true → ⊥
    differ true t f = cc f
    differ false t f = cc t

-- a chunk has one stripe
spans_are : (ids : Ids) (cs : List PlannedChunk) → flat_map stripe_spans (map (chunk_at ids) cs) ≡ map span_for cs
spans_are ids [] = refl
spans_are ids (c ∷ cs) = ap (λ (l : List Span). span_for c ∷ l) (spans_are ids cs)

-- ---- device extents

extent_is : (ids : Ids) (c : PlannedChunk) → AreIds ids → c.start + c.length ≤ 2 ^ 29 → IsExtentOf (chunk_at ids c) (chunk_at ids c).chunk.stripe (dev_extent_item ids c)
unfolding dev_extent_layout
extent_is ids c are small = record {
  key = refl;
  extent = dev_extent_body ids c;
  extent_is = dev_extents_read_back (dev_extent_body ids c) (((((tt, omega arith), omega arith), omega (arith, small)), omega (arith, small)), are.chunk_tree);
  chunk = (refl, refl, refl);
  length = refl;
}

module _ (o : Options) (ids : Ids) (now : ℕ) (image other : Image) (m : Making) (r : TreeRoots) (nodes : List TreeNode) (v : IsNewVolume o ids now image other m r nodes) where
  abbrev making : IsMaking image m
  making = v.new.conversion.making

  abbrev k : Recount
  k = recount_for image other m r nodes

  pub extents_are : dev_extents k ≡ map (dev_extent_item (new_ids m)) m.chunks
  extents_are =
      ap (filter (λ (i : Item). eqb i.0.kind DEV_EXTENT)) (append-nil (device_items (new_ids m) m.chunks))
      ∙ filter_all (λ (i : Item). eqb i.0.kind DEV_EXTENT) (device_items (new_ids m) m.chunks) (All-map (λ (i : Item). eqb i.0.kind DEV_EXTENT ≡ true) (dev_extent_item (new_ids m)) m.chunks (λ n d h. refl))

  pub small : (c : PlannedChunk) → Contains m.chunks c → c.start + c.length ≤ 2 ^ 29
  small c h =
      let end = all_at (λ (d : PlannedChunk). d.start + d.length ≤ m.volume.sup.blocks) m.chunks c (chunk_ends m.plan m.volume.sup.blocks m.chunks making.chunks_are) h in
      let few = blocks_few m.volume image m.options m.plan m.pieces making.has_pieces in
      omega (arith, end, few)

  is_extent : (c : PlannedChunk) → Contains m.chunks c → IsExtentOf (chunk_at (new_ids m) c) (chunk_at (new_ids m) c).chunk.stripe (dev_extent_item (new_ids m) c)
  is_extent c h = extent_is (new_ids m) c v.ids_ (small c h)

  pub chunk_there : (c : PlannedChunk) → Contains m.chunks c → Contains k.chunks (chunk_at (new_ids m) c)
  chunk_there c h = in_map (chunk_at (new_ids m)) (in_parts m.chunks) c (in_parts_from m.chunks c h)

  -- and each chunk that is read is one of the plan
  pub chunk_from : (c : ChunkAt) → Contains k.chunks c → (d : PlannedChunk) × Contains m.chunks d × (chunk_at (new_ids m) d ≡ c)
  chunk_from c h = let at = from_map (chunk_at (new_ids m)) (in_parts m.chunks) c h in (at.0, from_parts m.chunks at.0 at.1, at.2)

  -- the stripe of a chunk is its only one
  only_stripe : (P : Stripe → Type 0) (c : PlannedChunk) → P (chunk_at (new_ids m) c).chunk.stripe → All P (stripes_of (chunk_at (new_ids m) c))
  only_stripe P c is = All-cons P (chunk_at (new_ids m) c).chunk.stripe [] is (All-nil P)

  -- ---- each chunk is valid

  is_valid : (c : PlannedChunk) → Contains m.chunks c → IsChunkOn (super_for m r nodes) (chunk_at (new_ids m) c)
  is_valid c h =
      let some = (all_at (IsChunk (role_of m.plan m.volume.sup.blocks) (usable_end m.volume.sup.blocks)) m.chunks c making.chunks_are.each h).not_empty in
      let end = all_at (λ (d : PlannedChunk). d.start + d.length ≤ m.volume.sup.blocks) m.chunks c (chunk_ends m.plan m.volume.sup.blocks m.chunks making.chunks_are) h in
      let total = total_is m r nodes in
      record {
        sectors = refl;
        stripe_len = refl;
        some = λ e. omega (arith, e, some);
        whole = (omega arith, omega arith);
        ends = (let few = small c h in omega (arith, few));
        stripes = only_stripe (IsStripe (super_for m r nodes) (chunk_at (new_ids m) c).chunk.length) c (record {
          device = (ap (λ (d : Device). d.devid) (sym (device_is m r nodes)), ap (λ (d : Device). d.uuid) (sym (device_is m r nodes)));
          start = omega arith;
          inside = omega (arith, end, total);
        });
      }

  all_valid : All (IsChunkOn (super_for m r nodes)) k.chunks
  all_valid =
      all_from_contains (IsChunkOn (super_for m r nodes)) k.chunks
      (λ c h. let at = chunk_from c h in subst (IsChunkOn (super_for m r nodes)) at.2 (is_valid at.0 at.1))

  -- ---- the part

  of_chunk : (c : PlannedChunk) → Contains m.chunks c → IsOfChunk k.chunks (dev_extent_item (new_ids m) c)
  of_chunk c h = (chunk_at (new_ids m) c, (chunk_at (new_ids m) c).chunk.stripe, chunk_there c h, at_head (chunk_at (new_ids m) c).chunk.stripe [], is_extent c h)

  abbrev HasOwn : ChunkAt → Type 0
  HasOwn = HasExtents (dev_extents k)

  has_own : (c : PlannedChunk) → Contains m.chunks c → HasOwn (chunk_at (new_ids m) c)
  has_own c h =
      only_stripe (λ s. (i : Item) × Contains (dev_extents k) i × IsExtentOf (chunk_at (new_ids m) c) s i) c
      (dev_extent_item (new_ids m) c, subst (λ (l : List Item). Contains l (dev_extent_item (new_ids m) c)) (sym extents_are) (in_map (dev_extent_item (new_ids m)) m.chunks c h), is_extent c h)

  -- the items of the chunk tree
  keys_are : All IsChunkTreeItem k.chunk_tree.items
  keys_are = All-cons IsChunkTreeItem _ (map (chunk_item (new_ids m)) m.chunks) (inl refl) (All-map IsChunkTreeItem (chunk_item (new_ids m)) m.chunks (λ i d h. inr refl))

  pub keeps : (a : ℕ) → KeepsChunks k a
  keeps a = record {
    apart = record {
      valid = each_at (λ (c : ChunkAt). c.logical) a (IsChunkOn k.super) k.chunks all_valid;
      logical = pairs_at (λ (s : Span). s.start) a Apart (map chunk_span k.chunks)
          (pairs_map Apart chunk_span k.chunks (pairs_map (λ (c d : ChunkAt). Apart (chunk_span c) (chunk_span d)) (chunk_at (new_ids m)) (in_parts m.chunks) (parts_apart m.chunks making.chunks_are.ascending)));
      physical = pairs_at (λ (s : Span). s.start) a Apart (flat_map stripe_spans k.chunks)
          (subst (AllPairs Apart) (sym (spans_are (new_ids m) (in_parts m.chunks))) (pairs_map Apart span_for (in_parts m.chunks) (parts_apart m.chunks making.chunks_are.ascending)));
    };
    keys = each_at (λ (i : Item). i.0.offset) a IsChunkTreeItem k.chunk_tree.items keys_are;
    extents = record {
      each = each_at (λ (i : Item). i.0.offset) a (IsOfChunk k.chunks) (dev_extents k)
          (subst (All (IsOfChunk k.chunks)) (sym extents_are) (All-map (IsOfChunk k.chunks) (dev_extent_item (new_ids m)) m.chunks (all_from_contains (λ (c : PlannedChunk). IsOfChunk k.chunks (dev_extent_item (new_ids m) c)) m.chunks of_chunk)));
      whole = each_at (λ (c : ChunkAt). c.logical) a HasOwn k.chunks (all_from_contains HasOwn k.chunks (λ c h. let at = chunk_from c h in subst HasOwn at.2 (has_own at.0 at.1)));
    };
  }

pub converted_chunks_are_sound : NewIdsFit → ConvertedChunksAreSound
converted_chunks_are_sound fit = λ o ids now image other m r nodes is size low are has bytes.
    keeps o ids now image other m r nodes (volume_for fit o ids now image other m r nodes is size are has)
