-- No extent of a converted volume touches a reserved block.
use Rattle.convert_core_laws.proofs.Imports.{◌≡◌, ◌≤◌, ◌<◌, ℕ, ◌+◌, ◌*◌, ◌/◌, ◌%◌, ◌^◌, Bool, true, false, List, [], ◌∷◌, ◌++◌, length, map, Option, Some, None, refl, sym, ap, subst, ◌∙◌, ⊎_elim, arith, Contains, if◌then◌else◌, map-map, IsReserved, Image, Ids, IsNodeSize, range_of, KeepsReserved, IsExtent, a_node, some_data, map_of, Recount, Span, IsInNode, IsInSlots, holds, place, second_place, MapRange, PlannedChunk, NodePointer, IsMaking, Making, chunk_slots, new_ids, slots, TreeRoots, metadata_free, system_free, piece_apart, slot_unit, NewIdsFit, IsNewVolume, boot_part, chunk_at, other_part, any_from, used_of, TreeNode, blocks_are, node_places, places_in, Options, Piece, from_flat_map, from_map, ConvertedReservedAreSound, recount_for}
use Rattle.convert_core_laws.proofs.reading.Mapped.{in_parts, itself}
use Rattle.convert_core_laws.proofs.reading.Places.{HasBlock, chunk_slot_block, piece_block, slot_block}
use Rattle.convert_core_laws.proofs.reading.Superblock.{size}
use Rattle.convert_core_laws.proofs.soundness.AllUses.{data_is}
use Rattle.convert_core_laws.proofs.soundness.Nodes.{LiesAt, node_lies, of_chunks, of_others}
use Rattle.convert_core_laws.proofs.soundness.Recounting.{nodesize_is, total_is, volume_for}

-- ---- blocks of a node

-- a node begins at a multiple of its size
module _ (n : ℕ) (fit : IsNodeSize n) where
  pub place_aligned : (units : List ℕ) (a : ℕ) → Contains (node_places n units) a → a % n ≡ 0
  unfolding node_places
  place_aligned units a h =
      let unit = from_flat_map (places_in n) units a h in
      let at = from_map _ _ a unit.2 in
      subst (λ (x : ℕ). x % n ≡ 0) at.2 (multiple unit.0 at.0)
    where
      multiple : (u j : ℕ) → (2 ^ 20 * u + n * j) % n ≡ 0
      multiple u j =
          ⊎_elim (λ (e : n ≡ 4096). subst (λ (x : ℕ). (2 ^ 20 * u + x * j) % x ≡ 0) (sym e) (omega arith))
          (λ rest. ⊎_elim (λ (e : n ≡ 8192). subst (λ (x : ℕ). (2 ^ 20 * u + x * j) % x ≡ 0) (sym e) (omega arith))
          (λ rest'. ⊎_elim (λ (e : n ≡ 16384). subst (λ (x : ℕ). (2 ^ 20 * u + x * j) % x ≡ 0) (sym e) (omega arith))
          (λ rest''. ⊎_elim (λ (e : n ≡ 32768). subst (λ (x : ℕ). (2 ^ 20 * u + x * j) % x ≡ 0) (sym e) (omega arith)) (λ (e : n ≡ 65536). subst (λ (x : ℕ). (2 ^ 20 * u + x * j) % x ≡ 0) (sym e) (omega arith)) rest'')
          rest')
          rest)
          fit

  -- and so at one of 4096
  pub place_whole : (units : List ℕ) (a : ℕ) → Contains (node_places n units) a → a % 4096 ≡ 0
  place_whole units a h =
      let whole = place_aligned units a h in
      ⊎_elim (λ (e : n ≡ 4096). by 4096 e (λ w. omega (arith, w)) whole)
      (λ rest. ⊎_elim (λ (e : n ≡ 8192). by 8192 e (λ w. omega (arith, w)) whole)
      (λ rest'. ⊎_elim (λ (e : n ≡ 16384). by 16384 e (λ w. omega (arith, w)) whole)
      (λ rest''. ⊎_elim (λ (e : n ≡ 32768). by 32768 e (λ w. omega (arith, w)) whole) (λ (e : n ≡ 65536). by 65536 e (λ w. omega (arith, w)) whole) rest'')
      rest')
      rest)
      fit
    where
      by : (x : ℕ) → n ≡ x → (a % x ≡ 0 → a % 4096 ≡ 0) → a % n ≡ 0 → a % 4096 ≡ 0
      by x e is whole = is (subst (λ (y : ℕ). a % y ≡ 0) e whole)

  -- an address in a node lies in one of its blocks
  pub node_block : (a b : ℕ) → a % n ≡ 0 → a ≤ b → b < a + n → IsInNode n a (b / 4096)
  node_block a b aligned low high =
      ⊎_elim (λ (e : n ≡ 4096). by 4096 e (λ x y z. (omega (arith, y), omega (arith, x, y, z))))
      (λ rest. ⊎_elim (λ (e : n ≡ 8192). by 8192 e (λ x y z. (omega (arith, y), omega (arith, x, y, z))))
      (λ rest'. ⊎_elim (λ (e : n ≡ 16384). by 16384 e (λ x y z. (omega (arith, y), omega (arith, x, y, z))))
      (λ rest''. ⊎_elim (λ (e : n ≡ 32768). by 32768 e (λ x y z. (omega (arith, y), omega (arith, x, y, z)))) (λ (e : n ≡ 65536). by 65536 e (λ x y z. (omega (arith, y), omega (arith, x, y, z)))) rest'')
      rest')
      rest)
      fit
    where
      by : (x : ℕ) → n ≡ x → (a % x ≡ 0 → a ≤ b → b < a + x → IsInNode x a (b / 4096)) → IsInNode n a (b / 4096)
      by x e is = subst (λ (y : ℕ). IsInNode y a (b / 4096)) (sym e) (is (subst (λ (y : ℕ). a % y ≡ 0) e aligned) low (subst (λ (y : ℕ). b < a + y) e high))

  pub slot_holds : (units : List ℕ) (a b : ℕ) → Contains (node_places n units) a → a ≤ b → b < a + n → IsInSlots n (node_places n units) (b / 4096)
  slot_holds units a b h low high = any_from (λ (x : ℕ). IsInNode n x (b / 4096)) (node_places n units) a h (node_block a b (place_aligned units a h) low high)

module _ (o : Options) (ids : Ids) (now : ℕ) (image other : Image) (m : Making) (r : TreeRoots) (nodes : List TreeNode) (v : IsNewVolume o ids now image other m r nodes) where
  abbrev making : IsMaking image m
  making = v.new.conversion.making

  abbrev k : Recount
  k = recount_for image other m r nodes

  abbrev used : List Bool
  used = used_of image

  pub fit_size : IsNodeSize m.options.nodesize
  fit_size = size o ids now image other m r nodes v

  -- an address of a block in a chunk means itself
  pub means_itself : (a : ℕ) → HasBlock m.chunks (a / 4096) → place (map range_of k.chunks) a ≡ Some a
  means_itself a at =
      let low = at.low in
      let high = at.high in
      ap (λ (rs : List MapRange). place rs a) (map-map range_of (chunk_at (new_ids m)) (boot_part m.chunks ++ other_part m.chunks))
      ∙ itself (boot_part m.chunks ++ other_part m.chunks) at.chunk a (in_parts m.chunks at.chunk at.among) (omega (arith, low)) (omega (arith, high))

  -- what is known of the block of each address in an extent
  pub record IsGood (b : ℕ) : Type 0 where
    pub has : HasBlock m.chunks b
    pub free : ¬ IsReserved b (length used)

  good_node : (number address a : ℕ) → LiesAt o ids now image other m r nodes v number address → address ≤ a → a < address + m.options.nodesize → IsGood (a / 4096)
  good_node number address a (of_chunks is h) low high =
      let at : IsInSlots m.options.nodesize (chunk_slots m) (a / 4096) = slot_holds m.options.nodesize fit_size m.plan.system address a h low high in
      record {
        has = (chunk_slot_block image m making fit_size (a / 4096) at).has;
        free = (system_free m.volume image m.options m.plan m.pieces making.has_pieces (a / 4096) (slot_unit m.options.nodesize m.plan.system (a / 4096) fit_size at)).unreserved (a / 4096) refl;
      }
  good_node number address a (of_others is h) low high =
      let at : IsInSlots m.options.nodesize (slots m) (a / 4096) = slot_holds m.options.nodesize fit_size m.plan.metadata address a h low high in
      record {
        has = slot_block image m making fit_size (a / 4096) at;
        free = (metadata_free m.volume image m.options m.plan m.pieces making.has_pieces (a / 4096) (slot_unit m.options.nodesize m.plan.metadata (a / 4096) fit_size at)).unreserved (a / 4096) refl;
      }

  good_piece : (p : Piece) (a : ℕ) → Contains m.pieces p → 4096 * p.place ≤ a → a < 4096 * p.place + 4096 * p.count → IsGood (a / 4096)
  good_piece p a h low high = record {
    has = piece_block image m making p h (a / 4096) (omega (arith, low)) (omega (arith, high));
    free = piece_apart m.volume image m.options m.plan m.pieces making.has_pieces p h (a / 4096) (omega (arith, low)) (omega (arith, high));
  }

  pub good : (span : Span) (kind a : ℕ) → IsExtent k span kind → span.start ≤ a → a < span.start + span.length → IsGood (a / 4096)
  good span kind a (a_node t h node is) low high =
      let p : NodePointer = node.0 in
      let e : span ≡ record { start = p.address; length = k.super.nodesize } = node.2 in
      let start : span.start ≡ p.address = ap (λ (x : Span). x.start) e in
      let long : span.length ≡ m.options.nodesize = ap (λ (x : Span). x.length) e ∙ nodesize_is m r nodes in
      good_node t.number p.address a (node_lies o ids now image other m r nodes v t p h node.1) (omega (arith, low, start)) (omega (arith, high, start, long))
  good span kind a (some_data d is) low high =
      let of = data_is image m making fit_size other r nodes span d in
      let p : Piece = of.0 in
      let start : span.start ≡ 4096 * p.place = ap (λ (x : Span). x.start) of.2 in
      let long : span.length ≡ 4096 * p.count = ap (λ (x : Span). x.length) of.2 in
      good_piece p a of.1 (omega (arith, low, start)) (omega (arith, high, start, long))

  some_same : (a b : ℕ) → Some a ≡ Some b → a ≡ b
  some_same a b e = cc

  blocks_total : (super_total : ℕ) → super_total ≡ 4096 * m.volume.sup.blocks → super_total / 4096 ≡ length used
  blocks_total n is = let same = blocks_are image m making in omega (arith, is, same)

  -- no block of an extent is reserved
  pub unreserved : (span : Span) (kind a p : ℕ) → IsExtent k span kind → span.start ≤ a → a < span.start + span.length → place (map_of k) a ≡ Some p → ¬ IsReserved (p / 4096) (k.super.total_bytes / 4096)
  unreserved = λ span kind a p extent low high found reserved.
      let is : IsGood (a / 4096) = good span kind a extent low high in
      let same : a ≡ p = some_same a p (sym (means_itself a is.has) ∙ found) in
      let count : k.super.total_bytes / 4096 ≡ length used = blocks_total k.super.total_bytes (total_is m r nodes) in
      is.free (subst (λ (n : ℕ). IsReserved (a / 4096) n) count (subst (λ (x : ℕ). IsReserved (x / 4096) (k.super.total_bytes / 4096)) (sym same) reserved))

  -- and no chunk has a second copy
  pub keeps : (at : ℕ) → KeepsReserved k at
  keeps at = record {
    first = λ span kind a p here extent low high found. unreserved span kind a p extent low high found;
    second = λ span kind a p here extent low high found reserved. no_copy (in_plan m.chunks) a p found;
  }
    where
      in_plan : List PlannedChunk → List PlannedChunk
      in_plan cs = boot_part cs ++ other_part cs

      none_by : (b : Bool) (rest : Option ℕ) (p : ℕ) → (rest ≡ Some p → ⊥) → (if b then None else rest) ≡ Some p → ⊥
      none_by true rest p later found = cc found
      none_by false rest p later found = later found

      no_copy : (cs : List PlannedChunk) (a p : ℕ) → second_place (map range_of (map (chunk_at (new_ids m)) cs)) a ≡ Some p → ⊥
      no_copy [] a p found = cc found
      no_copy (c ∷ cs) a p found = none_by (holds (range_of (chunk_at (new_ids m) c)) a) (second_place (map range_of (map (chunk_at (new_ids m)) cs)) a) p (no_copy cs a p) found

pub converted_reserved_are_sound : NewIdsFit → ConvertedReservedAreSound
converted_reserved_are_sound fit = λ o ids now image other m r nodes is size low are has bytes.
    keeps o ids now image other m r nodes (volume_for fit o ids now image other m r nodes is size are has)
