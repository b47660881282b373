-- What is prepared stands on the disk as the old volume.
use Rattle.rollback_core.proofs.Imports.{◌≡◌, ◌≢◌, ◌⊎◌, inl, inr, ⊎_elim, ℕ, zero, suc, ◌<◌, eqb, Bool, true, false, not, ◌&&◌, List, [], ◌∷◌, length, map, get_or, Contains, filter, Option, refl, sym, ◌∙◌, ap, subst, arith, true≢false, and_parts, cases_eq, nat_tests, from_filter, from_map, in_filter, in_map, used_had, has, used_blocks, Image, block_at, is_reserved, IsMirror, IsOld, block_or_hole, image_blocks, image_block, superblock_in, used_length, superblock, CanGoBack, old_used, IsWayBack, IsBack, IsRestored, IsRolledBack, StillStands, is_wiped, restored_blocks, AreWritesApart, AreWiped, IsSavedPlace, IsTurned, IsUnturned, IsWiped, Saved, WayBack}

abbrev other_than : ℕ → Bool
other_than b = not (eqb b 16)

other_true : (b : ℕ) → b ≢ 16 → other_than b ≡ true
other_true b other = grind (arith, nat_tests, other)

has_within : (set : List Bool) (b : ℕ) → has set b ≡ true → b < length set
has_within [] b h = absurd (true≢false (sym h))
has_within (x ∷ set) zero h = omega arith
has_within (x ∷ set) (suc b) h = omega (arith, has_within set b h)

-- a used block of the old volume is one of its image
pub used_below : (disk : Image) → CanGoBack disk → (b : ℕ) → has (old_used disk) b ≡ true → b < length (image_blocks disk)
used_below disk can b marked =
    let within = has_within (old_used disk) b marked in
    let long = used_length (image_blocks disk) in
    let fits = can.accepted.clean.superblock.fits in
    omega (arith, within, long, fits)

-- block 16 is one of them
pub superblock_used : (disk : Image) → CanGoBack disk → has (old_used disk) 16 ≡ true
superblock_used disk can = let s = superblock (image_blocks disk) in can.accepted.system 16 (superblock_in s.blocks s.journal_first s.journal_size)

-- and where a used block is not reserved it is that of the disk
image_in_place : (disk : Image) → CanGoBack disk → (b : ℕ) → IsOld (old_used disk) b → block_at (image_blocks disk) b ≡ block_at disk b
image_in_place disk can b old =
    image_block disk b (used_below disk can b old.marked) ∙ ap (λ (o : Option ℕ). block_or_hole disk o) (can.in_place b old)

module _ (disk : Image) (way : WayBack) (p : IsWayBack disk way) where
  abbrev used : List Bool
  used = old_used disk

  abbrev reserved_here : ℕ → Bool
  reserved_here b = is_reserved b (length used)

  -- a place is one of the restored blocks, and not block 16
  place_listed : (b : ℕ) → IsSavedPlace way.reserved.items b → Contains (filter other_than (restored_blocks disk)) b
  place_listed b at =
      let s : Saved = at.1 in
      subst (λ (numbers : List ℕ). Contains numbers b) p.reserved.numbers_are
      (subst (Contains (map (λ (t : Saved). t.at) way.reserved.items)) (sym at.4) (in_map (λ (t : Saved). t.at) way.reserved.items s (at.0, at.2, at.3)))

  pub place_restored : (b : ℕ) → IsSavedPlace way.reserved.items b → IsRestored disk b
  place_restored b at =
      let listed = from_filter other_than (restored_blocks disk) b (place_listed b at) in
      let marked = from_filter reserved_here (used_blocks used) b listed.0 in
      record { used = (used_had used b).0 marked.0; reserved = marked.1 }

  -- and each of them but block 16 is a place
  restored_saved : (b : ℕ) → IsRestored disk b → b ≢ 16 → (s : Saved) × Contains way.reserved.items s × (s.at ≡ b)
  restored_saved b is other =
      let listed : Contains (filter other_than (restored_blocks disk)) b =
      in_filter other_than (restored_blocks disk) b
      (in_filter reserved_here (used_blocks used) b ((used_had used b).1 is.used) is.reserved) (other_true b other) in
      from_map (λ (t : Saved). t.at) way.reserved.items b (subst (λ (numbers : List ℕ). Contains numbers b) (sym p.reserved.numbers_are) listed)

  -- before block 16 the Btrfs volume stands
  pub standing : AreWritesApart way → (other : Image) → IsUnturned way disk other → StillStands disk other
  standing apart other is = record {
    size = is.size;
    superblock = is.others 16 apart.superblock;
    others = λ b outside. is.others b (λ at. outside (place_restored b at));
  }

  -- what is wiped is a block of a copy without use
  wiped_free : (b : ℕ) → IsWiped way b → IsMirror b × (is_wiped disk b ≡ true)
  wiped_free b wiped =
      ⊎_elim
      (λ first. (inl first.0, subst (λ (n : ℕ). is_wiped disk n ≡ true) (sym first.0) (sym p.first ∙ first.1)))
      (λ second. (inr second.0, subst (λ (n : ℕ). is_wiped disk n ≡ true) (sym second.0) (sym p.second ∙ second.1)))
      wiped

  free_unused : (b : ℕ) → is_wiped disk b ≡ true → has used b ≡ false
  free_unused b wiped = unused (has used b) _ (and_parts _ _ wiped).1
    where
      unused : (h t : Bool) → (not h && t) ≡ true → h ≡ false
      unused false t is = refl
      unused true t is = absurd (true≢false (sym is))

  module _ (other : Image) (is : IsTurned way disk other) where
    -- a saved block stands
    saved_stands : (s : Saved) → Contains way.reserved.items s → block_at other s.at ≡ block_at (image_blocks disk) s.at
    saved_stands s among =
        let written = is.written among.0 s among.1 in
        let saved = p.reserved.blocks among.0 s among.1 in
        let here : get_or way.reserved.items among.0 s ≡ s = among.2 in
        subst (λ (t : Saved). block_at other t.at ≡ block_at (image_blocks disk) t.at) here (written ∙ saved)

    -- so does each used block
    used_stands : (b : ℕ) → has used b ≡ true → block_at other b ≡ block_at (image_blocks disk) b
    used_stands b marked = ⊎_elim (λ first. at_superblock first) (λ rest. by_reserved rest (reserved_here b) refl) (cases_eq b 16)
      where
        at_superblock : b ≡ 16 → block_at other b ≡ block_at (image_blocks disk) b
        at_superblock first =
            subst (λ (n : ℕ). block_at other n ≡ block_at (image_blocks disk) n) (sym first) (is.superblock ∙ p.superblock)

        by_reserved : b ≢ 16 → (t : Bool) → reserved_here b ≡ t → block_at other b ≡ block_at (image_blocks disk) b
        by_reserved rest true reserved =
            let found = restored_saved b (record { used = marked; reserved = reserved }) rest in
            subst (λ (n : ℕ). block_at other n ≡ block_at (image_blocks disk) n) found.2 (saved_stands found.0 found.1)
        by_reserved rest false free =
            let old : IsOld used b = record { marked = marked; outside = free } in
            let outside : ¬ IsSavedPlace way.reserved.items b = λ at. true≢false (sym ((place_restored b at).reserved) ∙ free) in
            let same : block_at other b ≡ block_at disk b =
            ⊎_elim (λ kept. kept) (λ wiped. absurd (true≢false (sym marked ∙ free_unused b (wiped_free b wiped).1))) (is.others b rest outside) in
            same ∙ sym (image_in_place disk p.can b old)

    -- and the old volume is back
    pub back : IsBack disk other
    back = record {
      size = is.size;
      used = used_stands;
      others = λ b free.
          let rest : b ≢ 16 = λ first. true≢false (sym (superblock_used disk p.can) ∙ (ap (has used) (sym first) ∙ free)) in
          let outside : ¬ IsSavedPlace way.reserved.items b = λ at. true≢false (sym ((place_restored b at).used) ∙ free) in
          ⊎_elim (λ kept. inl kept) (λ wiped. inr (wiped_free b wiped)) (is.others b rest outside);
    }

    pub rolled_back : AreWiped way other → IsRolledBack disk other
    rolled_back wiped = record {
      can = p.can;
      back = back;
      wiped = λ b mirror is_to. wiped b (to_wipe b mirror is_to);
    }
      where
        to_wipe : (b : ℕ) → IsMirror b → is_wiped disk b ≡ true → IsWiped way b
        to_wipe b mirror is_to =
            ⊎_elim
            (λ first. inl (first, p.first ∙ subst (λ (n : ℕ). is_wiped disk n ≡ true) first is_to))
            (λ second. inr (second, p.second ∙ subst (λ (n : ℕ). is_wiped disk n ≡ true) second is_to))
            mirror
