-- What is told of the blocks that a volume uses, from its trees to the whole.
use Rattle.volume_state.proofs.Imports.{◌≡◌, ◌≢◌, ⊎_elim, inl, inr, ℕ, List, [], ◌∷◌, ◌++◌, length, Contains, Option, Some, None, refl, sym, ◌∙◌, subst, arith, All-cons, All-head, All-nil, All-tail, SUPER_BLOCK, Image, block_at, BtrAnswer, Refused, Fault, Memory, BtrRefusal, IsReserved, none_left, AreInBlocks, IsInBlocks, no_log, of_disk, of_volume, one_log, opened_super, items_refusals, IsSuperInBounds, IsBtrfsOpened, boot_chunks, boot_list, boot_refusals, chunk_tree, map_from, or_later, root_tree, trees_refusals, way_refusals, ChunkAt, Super, IsAmong, found, met, wrong, MapRange, boot_map, HoldsNodeOf, IsInFiles, IsInRoots, IsInUse, RefusesUse, TellsReserved, chunk_node, file_part, has_log, root_node, unreadable, option_or, later_none}
use Rattle.reiser_bitmap.specs.refusals.declared.refusal.BtrRefusal.TheVariants.{LogPending}
use Rattle.btr_reader.proofs.MapBlocks.{opened_in_blocks}
use Rattle.btr_reader.proofs.Opens.{opening_is}
use Rattle.btr_reader.proofs.Supers.{in_bounds}
use Rattle.volume_state.proofs.Wider.{begins, holds_early, holds_wide, met_wide, sound_wide}

first_none : (early later : List BtrRefusal) → or_later early later ≡ [] → early ≡ []
first_none [] later is = refl
first_none (r ∷ rs) later is = absurd (cc is)

early_blocks : (early late : List MapRange) → AreInBlocks (early ++ late) → AreInBlocks early
early_blocks [] late all = All-nil IsInBlocks
early_blocks (r ∷ early) late all = All-cons IsInBlocks r early (All-head IsInBlocks r (early ++ late) all) (early_blocks early late (All-tail IsInBlocks r (early ++ late) all))

module _ (image : Image) (s : Super) (ranges : List MapRange) (opened : IsBtrfsOpened image s ranges) where
  abbrev boot : List ChunkAt
  boot = boot_list (boot_chunks s)

  pub bounds : IsSuperInBounds s
  bounds = in_bounds (block_at image SUPER_BLOCK) (length image) s opened.super

  -- nothing is wrong with the chunk tree and the root tree
  trees_sound : trees_refusals image s boot ≡ []
  trees_sound = later_none (boot_refusals (length image) (boot_chunks s)) (trees_refusals image s boot) (sym (opening_is image s opened.super) ∙ opened.sound)

  abbrev chunk_refusals : List BtrRefusal
  chunk_refusals = wrong image (boot_map s) (chunk_tree s) ++ items_refusals (length image) boot (boot_map s) (found image (boot_map s) (chunk_tree s))

  array_sound : wrong image (boot_map s) (chunk_tree s) ≡ []
  array_sound =
      none_left (wrong image (boot_map s) (chunk_tree s)) (items_refusals (length image) boot (boot_map s) (found image (boot_map s) (chunk_tree s)))
      (first_none chunk_refusals (wrong image (map_from image s boot) (root_tree s)) trees_sound)

  pub roots_sound : wrong image ranges (root_tree s) ≡ []
  roots_sound =
      subst (λ (m : List MapRange). wrong image m (root_tree s) ≡ []) (sym opened.map_is) (later_none chunk_refusals (wrong image (map_from image s boot) (root_tree s)) trees_sound)

  -- ---- the map begins with the chunks of the array, by which the chunk tree lies
  late : (more : List MapRange) × (ranges ≡ boot_map s ++ more)
  late = let rest = begins boot (boot_map s) (found image (boot_map s) (chunk_tree s)) in (rest.0, opened.map_is ∙ rest.1)

  array_blocks : AreInBlocks (boot_map s)
  array_blocks = early_blocks (boot_map s) late.0 (subst AreInBlocks late.1 (opened_in_blocks image s ranges opened))

  pub chunks_sound : wrong image ranges (chunk_tree s) ≡ []
  chunks_sound = subst (λ (m : List MapRange). wrong image m (chunk_tree s) ≡ []) (sym late.1) (sound_wide image (boot_map s) late.0 (chunk_tree s) array_sound)

  -- the same blocks hold a node of it
  pub chunk_by_array : (b : ℕ) → HoldsNodeOf image ranges (chunk_tree s) b → HoldsNodeOf image (boot_map s) (chunk_tree s) b
  chunk_by_array b holding =
      holds_early image (boot_map s) late.0 (chunk_tree s) array_sound array_blocks bounds.nodesize b (subst (λ (m : List MapRange). HoldsNodeOf image m (chunk_tree s) b) late.1 holding)

  pub chunk_by_map : (b : ℕ) → HoldsNodeOf image (boot_map s) (chunk_tree s) b → HoldsNodeOf image ranges (chunk_tree s) b
  chunk_by_map b holding =
      subst (λ (m : List MapRange). HoldsNodeOf image m (chunk_tree s) b) (sym late.1) (holds_wide image (boot_map s) late.0 (chunk_tree s) array_sound b holding)

  -- ---- blocks in use
  pub chunk_used : (blocks b : ℕ) → TellsReserved (HoldsNodeOf image ranges (chunk_tree s)) blocks (Some b) → TellsReserved (IsInUse image) blocks (Some b)
  chunk_used blocks b one =
      (one.0, chunk_node (subst (λ (t : Super). HoldsNodeOf image (boot_map t) (chunk_tree t) b) (opened_super image s ranges opened) (chunk_by_array b one.1)))

  pub root_used : (blocks b : ℕ) → TellsReserved (HoldsNodeOf image ranges (root_tree s)) blocks (Some b) → TellsReserved (IsInUse image) blocks (Some b)
  root_used blocks b one = (one.0, root_node (of_disk image s ranges (λ t m. HoldsNodeOf image m (root_tree t) b) opened one.1))

  pub all_told : (blocks : ℕ) (o : Option ℕ) → TellsReserved (HoldsNodeOf image ranges (chunk_tree s)) blocks None → TellsReserved (HoldsNodeOf image ranges (root_tree s)) blocks None → TellsReserved (IsInFiles image) blocks o
      → TellsReserved (IsInUse image) blocks o
  all_told blocks (Some b) chunks roots files = (files.0, file_part files.1)
  all_told blocks None chunks roots files = unused
    where
      unused : (b : ℕ) → IsReserved b blocks → IsInUse image b → ⊥
      unused b reserved (chunk_node holding) =
          chunks b reserved (chunk_by_map b (subst (λ (t : Super). HoldsNodeOf image (boot_map t) (chunk_tree t) b) (sym (opened_super image s ranges opened)) holding))
      unused b reserved (root_node holding) = roots b reserved (of_volume image s ranges (λ t m. HoldsNodeOf image m (root_tree t) b) opened holding)
      unused b reserved (file_part holding) = files b reserved holding

  -- the chunk tree and the root tree, and then the two of files
  pub roots_told : (blocks : ℕ) (o : Option ℕ) → TellsReserved (HoldsNodeOf image ranges (chunk_tree s)) blocks None → TellsReserved (HoldsNodeOf image ranges (root_tree s)) blocks o → TellsReserved (IsInRoots image s ranges) blocks o
  roots_told blocks None chunks roots = λ b reserved holds. ⊎_elim (chunks b reserved) (roots b reserved) holds
  roots_told blocks (Some b) chunks roots = (roots.0, inr roots.1)

  pub whole_told : (blocks : ℕ) (first second : Option ℕ) → TellsReserved (IsInRoots image s ranges) blocks first → TellsReserved (IsInFiles image) blocks second → TellsReserved (IsInUse image) blocks (option_or first second)
  whole_told blocks None second roots files = all_told blocks second (λ b reserved holds. roots b reserved (inl holds)) (λ b reserved holds. roots b reserved (inr holds)) files
  whole_told blocks (Some b) second roots files = ⊎_elim (λ chunk. chunk_used blocks b (roots.0, chunk)) (λ root. root_used blocks b (roots.0, root)) roots.1

  -- ---- what is answered
  pub log_refused : s.log_root ≢ 0 → RefusesUse image (Refused (LogPending s.log_root))
  log_refused some = has_log s.log_root (one_log image s opened.super some) refl

  pub way_refused : (e : BtrAnswer) → s.log_root ≡ 0 → IsAmong (way_refusals image) e → RefusesUse image e
  way_refused (Refused r) none among = unreadable (no_log image s opened.super none) (inr (opened.sound, among))
  way_refused Fault none among = tt
  way_refused Memory none among = tt
