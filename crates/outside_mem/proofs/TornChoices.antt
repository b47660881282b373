-- The image that a choice gives where blocks are torn, and the choice that gives an image.
use Rattle.outside_mem.proofs.Imports.{◌≡◌, inl, inr, ⊎_elim, ℕ, zero, suc, ◌+◌, ◌*◌, ◌%◌, ◌<◌, ◌≤◌, ◌^◌, true, false, List, [], length, map, get_or, replicate, sym, ◌∙◌, ap, subst, arith, range_with_len, cases_lt, cases_Bool, get_or-map, get_or_past, length-map, ext_get_or, length-map-range_with_len, get_or-map-range_with_len, Image, History, block_at, sector, synced_from, IsTorn, Waits, MayLeave, written, values, is_waiting, waiting_blocks, by_number, number_for, numbers_for, crash_image, torn_by, torn_image, HasWholeBlocks, mod-lt, All}
use Rattle.outside.proofs.Sectors.{sectors_same, torn_none, torn_whole}
use Rattle.outside_mem.proofs.Choices.{length-synced_from, length-crash_image, block_at-crash_image, by_number-one, by_number-small, by_number_may, choice_for-place}
use Rattle.outside_mem.proofs.Images.{length-image_of, block_at-image_of}
use Rattle.outside_mem.proofs.Keys.{passing_below, passing_place}
use Rattle.outside_mem.proofs.Tearing.{no_sector, length-sectors_of, sector_of}
use Rattle.outside_mem.proofs.Waiting.{nothing_written, waits_from_place, place_of}
use Rattle.outside_mem.proofs.Whole.{IsWholeImage, waits_whole, synced_whole}

-- the value that a sector has by eight numbers
abbrev value_in : List (List ℕ) → List ℕ → ℕ → List ℕ
value_in vs numbers s = by_number vs (get_or numbers s 0)

module _ (h : History) (whole : HasWholeBlocks h) where
  abbrev n : ℕ
  n = length h.start

  abbrev old : ℕ → List ℕ
  old b = block_at (synced_from h.start h.calls) b

  old_whole : (b : ℕ) → b < n → length (old b) ≡ 4096
  old_whole b below = synced_whole h.start whole.start h.calls whole.written b below

  -- each value of a block has 4096 bytes
  value_whole : (b : ℕ) → b < n → (j : ℕ) → j < length (values h b) → length (get_or (values h b) j []) ≡ 4096
  value_whole b below zero within = old_whole b below
  value_whole b below (suc j) within =
      waits_whole h.calls whole.written b (get_or (written h.calls b) j []) (waits_from_place h.calls b j (omega (arith, within)))

  pub chosen_whole : (b : ℕ) → b < n → (number : ℕ) → length (by_number (values h b) number) ≡ 4096
  chosen_whole b below number = value_whole b below (number % length (values h b)) (mod-lt number (omega arith))

  pub crash_image_whole : (choice : List ℕ) → IsWholeImage (crash_image h choice)
  crash_image_whole choice b below =
      let within : b < n = omega (arith, below, length-crash_image h choice) in
      ap (λ (bytes : List ℕ). length bytes) (block_at-crash_image h choice b within) ∙ chosen_whole b within (number_for (waiting_blocks h) choice b)

  -- ---- a block that eight numbers make
  module _ (b : ℕ) (below : b < n) (numbers : List ℕ) where
    abbrev block : List ℕ
    block = torn_by (values h b) numbers

    long : (s : ℕ) → s < 8 → (s + 1) * 512 ≤ length (value_in (values h b) numbers s)
    long s low = omega (arith, low, chosen_whole b below (get_or numbers s 0))

    -- has each sector of the value that its number names
    torn_sector : (s : ℕ) → s < 8 → sector block s ≡ sector (value_in (values h b) numbers s) s
    torn_sector = sector_of (value_in (values h b) numbers) 8 long

    pub torn_whole_block : length block ≡ 4096
    torn_whole_block = length-sectors_of (value_in (values h b) numbers) 8 long

    torn_end : (s : ℕ) → 8 ≤ s → sector block s ≡ []
    torn_end s high = no_sector block s (omega (arith, high, torn_whole_block))

    torn_block : IsTorn (Waits h.calls b) (old b) block
    torn_block s = ⊎_elim
        (λ low.
        let is = torn_sector s low in
        ⊎_elim
        (λ same. inl (is ∙ ap (λ (bytes : List ℕ). sector bytes s) same))
        (λ waits. inr (value_in (values h b) numbers s, waits, is))
        (by_number_may h b (get_or numbers s 0)))
        (λ high. inl (torn_end s high ∙ sym (no_sector (old b) s (omega (arith, high, old_whole b below)))))
        (cases_lt s 8)

    -- where it does not wait, it is as at the last sync
    pub torn_rests : is_waiting h.calls b ≡ false → block ≡ old b
    torn_rests rests = sectors_same block (old b) (λ s. ⊎_elim
        (λ low. torn_sector s low ∙ ap (λ (bytes : List ℕ). sector bytes s) (by_number-one (old b) (written h.calls b) (get_or numbers s 0) (nothing_written h.calls b rests)))
        (λ high. torn_end s high ∙ sym (no_sector (old b) s (omega (arith, high, old_whole b below))))
        (cases_lt s 8))

  -- ---- the image of a choice
  module _ (choice : List (List ℕ)) where
    abbrev numbers_of : ℕ → List ℕ
    numbers_of b = numbers_for (waiting_blocks h) choice b

    pub length-torn_image : length (torn_image h choice) ≡ n
    length-torn_image = length-image_of n (λ b. torn_by (values h b) (numbers_of b))

    block_at-torn_image : (b : ℕ) → b < n → block_at (torn_image h choice) b ≡ torn_by (values h b) (numbers_of b)
    block_at-torn_image b below = block_at-image_of n (λ b. torn_by (values h b) (numbers_of b)) b below

    pub torn_image_whole : IsWholeImage (torn_image h choice)
    torn_image_whole b below =
        let within : b < n = omega (arith, below, length-torn_image) in
        ap (λ (bytes : List ℕ). length bytes) (block_at-torn_image b within) ∙ torn_whole_block b within (numbers_of b)

    pub torn_waiting : (i b s : ℕ) → i < length (waiting_blocks h) → b ≡ get_or (waiting_blocks h) i 0 → s < 8
        → sector (block_at (torn_image h choice) b) s ≡ sector (by_number (values h b) (get_or (get_or choice i (replicate 8 0)) s 0)) s
    torn_waiting i b s within is low =
        let below : b < n = subst (λ (c : ℕ). c < n) (sym is) (passing_below (λ c. is_waiting h.calls c) n i 0 within) in
        ap (λ (bytes : List ℕ). sector bytes s) (block_at-torn_image b below)
        ∙ torn_sector b below (numbers_of b) s low
        ∙ ap (λ (numbers : List ℕ). sector (value_in (values h b) numbers s) s) (choice_for-place h (replicate 8 0) choice i b within is)

    pub torn_other : (b : ℕ) → b < n → is_waiting h.calls b ≡ false → block_at (torn_image h choice) b ≡ old b
    torn_other b below rests = block_at-torn_image b below ∙ torn_rests b below (numbers_of b) rests

    pub torn_choice_may : MayLeave h.start h.calls (torn_image h choice)
    torn_choice_may = record { size = length-torn_image; each = λ b. ⊎_elim (inside b) (outside b) (cases_lt b n) }
      where
        inside : (b : ℕ) → b < n → IsTorn (Waits h.calls b) (old b) (block_at (torn_image h choice) b)
        inside b below = subst (IsTorn (Waits h.calls b) (old b)) (sym (block_at-torn_image b below)) (torn_block b below (numbers_of b))

        outside : (b : ℕ) → n ≤ b → IsTorn (Waits h.calls b) (old b) (block_at (torn_image h choice) b)
        outside b past = torn_whole (Waits h.calls b) (old b) (block_at (torn_image h choice) b)
            (inl (get_or_past (torn_image h choice) b [] (omega (arith, past, length-torn_image))
            ∙ sym (get_or_past (synced_from h.start h.calls) b [] (omega (arith, past, length-synced_from h.start h.calls)))))

  -- ---- the choice of an image
  module _ (image : Image) (may : MayLeave h.start h.calls image) where
    -- the number of a value that has the sector as the image has it
    number_in : (b s : ℕ) → (j : ℕ) × (j < length (values h b)) × (sector (get_or (values h b) j []) s ≡ sector (block_at image b) s)
    number_in b s = ⊎_elim
        (λ same. (0, omega arith, sym same))
        (λ other.
        let place = place_of h.calls b other.0 other.1 in
        (suc place.0, omega (arith, place.1), ap (λ (bytes : List ℕ). sector bytes s) place.2 ∙ sym other.2))
        (may.each b s)

    numbers : ℕ → List ℕ
    numbers b = map (λ s. (number_in b s).0) (range_with_len 0 8)

    number_at : (b s d : ℕ) → s < 8 → get_or (numbers b) s d ≡ (number_in b s).0
    unfolding numbers
    number_at b s d low = get_or-map-range_with_len (λ s. (number_in b s).0) 0 8 s s d low (omega arith)

    length-numbers : (b : ℕ) → length (numbers b) ≡ 8
    unfolding numbers
    length-numbers b = length-map-range_with_len (λ s. (number_in b s).0) 0 8

    pub torn_choice_of : List (List ℕ)
    torn_choice_of = map numbers (waiting_blocks h)

    pub torn_choice_small : ((b : ℕ) → b < n → length (values h b) ≤ 2 ^ 32) → All (λ ns. (length ns ≡ 8) × All (λ number. number < 2 ^ 32) ns) torn_choice_of
    unfolding torn_choice_of
    torn_choice_small few i d below =
        let within : i < length (waiting_blocks h) = omega (arith, below, length-map (waiting_blocks h) numbers) in
        let b : ℕ = get_or (waiting_blocks h) i 0 in
        let fits : length (values h b) ≤ 2 ^ 32 = few b (passing_below (λ c. is_waiting h.calls c) n i 0 within) in
        subst (λ (ns : List ℕ). (length ns ≡ 8) × All (λ number. number < 2 ^ 32) ns) (sym (get_or-map numbers (waiting_blocks h) i 0 d within))
        (length-numbers b, λ s e low. omega (arith, number_at b s e (omega (arith, low, length-numbers b)), (number_in b s).1, fits))

    -- the block is the one that these numbers make
    same_block : (b : ℕ) → b < n → torn_by (values h b) (numbers b) ≡ block_at image b
    same_block b below = sectors_same (torn_by (values h b) (numbers b)) (block_at image b) (λ s. ⊎_elim (within s) (behind s) (cases_lt s 8))
      where
        within : (s : ℕ) → s < 8 → sector (torn_by (values h b) (numbers b)) s ≡ sector (block_at image b) s
        within s low =
            torn_sector b below (numbers b) s low
            ∙ ap (λ (k : ℕ). sector (by_number (values h b) k) s) (number_at b s 0 low)
            ∙ ap (λ (bytes : List ℕ). sector bytes s) (by_number-small (values h b) (number_in b s).0 (number_in b s).1)
            ∙ (number_in b s).2

        behind : (s : ℕ) → 8 ≤ s → sector (torn_by (values h b) (numbers b)) s ≡ sector (block_at image b) s
        behind s high =
            torn_end b below (numbers b) s high
            ∙ sym (no_sector (get_or (values h b) (number_in b s).0 []) s (omega (arith, high, value_whole b below (number_in b s).0 (number_in b s).1)))
            ∙ (number_in b s).2

    pub torn_choice_gives : torn_image h torn_choice_of ≡ image
    unfolding torn_choice_of
    torn_choice_gives = ext_get_or [] (torn_image h torn_choice_of) image (length-torn_image torn_choice_of ∙ sym may.size)
        (λ b below. ⊎_elim
        (waiting b (omega (arith, below, length-torn_image torn_choice_of)))
        (resting b (omega (arith, below, length-torn_image torn_choice_of)))
        (cases_Bool (is_waiting h.calls b)))
      where
        waiting : (b : ℕ) → b < n → is_waiting h.calls b ≡ true → block_at (torn_image h torn_choice_of) b ≡ block_at image b
        waiting b below is =
            let place = passing_place (λ c. is_waiting h.calls c) n 0 b (omega arith) (omega (arith, below)) is in
            let chosen : numbers_for (waiting_blocks h) torn_choice_of b ≡ numbers b =
            choice_for-place h (replicate 8 0) torn_choice_of place.0 b place.1 (sym place.2)
            ∙ get_or-map numbers (waiting_blocks h) place.0 0 (replicate 8 0) place.1
            ∙ ap numbers place.2 in
            block_at-torn_image torn_choice_of b below ∙ ap (λ (ns : List ℕ). torn_by (values h b) ns) chosen ∙ same_block b below

        resting : (b : ℕ) → b < n → is_waiting h.calls b ≡ false → block_at (torn_image h torn_choice_of) b ≡ block_at image b
        resting b below is =
            torn_other torn_choice_of b below is
            ∙ sym (torn_none (Waits h.calls b) (old b) (block_at image b)
            (λ value waits.
            let place = place_of h.calls b value waits in
            absurd (omega (arith, place.1, ap (λ (ws : List (List ℕ)). length ws) (nothing_written h.calls b is))))
            (may.each b))
