-- The image that a choice gives, and the choice that gives an image.
use Rattle.outside_mem.proofs.Imports.{◌≡◌, ◌⊎◌, inl, inr, ⊎_elim, ℕ, zero, suc, ◌%◌, ◌<◌, ◌≤◌, ◌^◌, Bool, true, false, List, [], ◌∷◌, length, map, get_or, refl, sym, ◌∙◌, ap, subst, arith, cases_lt, cases_Bool, get_or-map, get_or_past, length-map, ext_get_or, length-map-range_with_len, get_or-map-range_with_len, Image, Call, wrote, synced, History, block_at, synced_from, Waits, MayLeave, length-reads_from, whole_may, written, values, is_waiting, waiting_blocks, by_number, choice_for, number_for, crash_image, IsLeftWhole, mod-one, mod-lt, mod-eq_of_lt, All}
use Rattle.outside_mem.proofs.Keys.{count_before, passing_ordered, passing_below, passing_place}
use Rattle.outside_mem.proofs.Waiting.{nothing_written, waits_from_place, place_of}

pub length-synced_from : (start : Image) (calls : List Call) → length (synced_from start calls) ≡ length start
length-synced_from start [] = refl
length-synced_from start (wrote b bytes landed ∷ calls) = length-synced_from start calls
length-synced_from start (synced ∷ calls) = length-reads_from start calls

-- one value alone comes for each number
pub by_number-one : (value : List ℕ) (ws : List (List ℕ)) (number : ℕ) → ws ≡ [] → by_number (value ∷ ws) number ≡ value
by_number-one value ws number none =
    ap (λ (xs : List (List ℕ)). by_number (value ∷ xs) number) none ∙ ap (λ (j : ℕ). get_or (value ∷ []) j []) (mod-one number)

-- a number that is small enough names its value
pub by_number-small : (vs : List (List ℕ)) (number : ℕ) → number < length vs → by_number vs number ≡ get_or vs number []
by_number-small vs number below = ap (λ (j : ℕ). get_or vs j []) (mod-eq_of_lt below)

module _ (h : History) where
  abbrev n : ℕ
  n = length h.start

  abbrev waits : ℕ → Bool
  waits b = is_waiting h.calls b

  pub length-crash_image : (choice : List ℕ) → length (crash_image h choice) ≡ n
  length-crash_image choice = length-map-range_with_len (λ b. by_number (values h b) (number_for (waiting_blocks h) choice b)) 0 n

  pub block_at-crash_image : (choice : List ℕ) (b : ℕ) → b < n → block_at (crash_image h choice) b ≡ by_number (values h b) (number_for (waiting_blocks h) choice b)
  block_at-crash_image choice b below =
      get_or-map-range_with_len (λ (b : ℕ). by_number (values h b) (number_for (waiting_blocks h) choice b)) 0 n b b [] below (omega arith)

  -- the i-th block that waits has the i-th of the choice
  pub choice_for-place : {A : Type 0} (none : A) (choice : List A) (i b : ℕ) → i < length (waiting_blocks h) → b ≡ get_or (waiting_blocks h) i 0
      → choice_for none (waiting_blocks h) choice b ≡ get_or choice i none
  choice_for-place none choice i b below is =
      ap (λ (c : ℕ). choice_for none (waiting_blocks h) choice c) is
      ∙ ap (λ (j : ℕ). get_or choice j none) (count_before (waiting_blocks h) i (passing_ordered waits n) below)

  pub chosen_waiting : (choice : List ℕ) (i b : ℕ) → i < length (waiting_blocks h) → b ≡ get_or (waiting_blocks h) i 0
      → block_at (crash_image h choice) b ≡ by_number (values h b) (get_or choice i 0)
  chosen_waiting choice i b below is =
      block_at-crash_image choice b (subst (λ (c : ℕ). c < n) (sym is) (passing_below waits n i 0 below))
      ∙ ap (λ (number : ℕ). by_number (values h b) number) (choice_for-place 0 choice i b below is)

  pub chosen_other : (choice : List ℕ) (b : ℕ) → b < n → waits b ≡ false → block_at (crash_image h choice) b ≡ block_at (synced_from h.start h.calls) b
  chosen_other choice b below not_waiting =
      block_at-crash_image choice b below
      ∙ by_number-one (block_at (synced_from h.start h.calls) b) (written h.calls b) (number_for (waiting_blocks h) choice b) (nothing_written h.calls b not_waiting)

  -- the value of any number is the one at the last sync, or waits
  pub by_number_may : (b number : ℕ) → (by_number (values h b) number ≡ block_at (synced_from h.start h.calls) b) ⊎ Waits h.calls b (by_number (values h b) number)
  by_number_may b number = at (number % length (values h b)) (mod-lt number (omega arith))
    where
      at : (j : ℕ) → j < length (values h b) → (get_or (values h b) j [] ≡ block_at (synced_from h.start h.calls) b) ⊎ Waits h.calls b (get_or (values h b) j [])
      at zero below = inl refl
      at (suc j) below = inr (waits_from_place h.calls b j (omega (arith, below)))

  pub choice_may : (choice : List ℕ) → MayLeave h.start h.calls (crash_image h choice)
  choice_may choice = whole_may h.start h.calls (crash_image h choice) (length-crash_image choice) (λ b. ⊎_elim (inside b) (outside b) (cases_lt b n))
    where
      inside : (b : ℕ) → b < n → (block_at (crash_image h choice) b ≡ block_at (synced_from h.start h.calls) b) ⊎ Waits h.calls b (block_at (crash_image h choice) b)
      inside b below =
          let is : block_at (crash_image h choice) b ≡ by_number (values h b) (number_for (waiting_blocks h) choice b) = block_at-crash_image choice b below in
          ⊎_elim (λ same. inl (is ∙ same)) (λ waits_on. inr (subst (λ (bytes : List ℕ). Waits h.calls b bytes) (sym is) waits_on))
          (by_number_may b (number_for (waiting_blocks h) choice b))

      outside : (b : ℕ) → n ≤ b → (block_at (crash_image h choice) b ≡ block_at (synced_from h.start h.calls) b) ⊎ Waits h.calls b (block_at (crash_image h choice) b)
      outside b past = inl (get_or_past (crash_image h choice) b [] (omega (arith, past, length-crash_image choice))
          ∙ sym (get_or_past (synced_from h.start h.calls) b [] (omega (arith, past, length-synced_from h.start h.calls))))

  module _ (image : Image) (may : IsLeftWhole h image) where
    -- the number of the value that the image has
    number_in : (b : ℕ) → (j : ℕ) × (j < length (values h b)) × (get_or (values h b) j [] ≡ block_at image b)
    number_in b = ⊎_elim
        (λ same. (0, omega arith, sym same))
        (λ waits_on.
        let place = place_of h.calls b (block_at image b) waits_on in
        (suc place.0, omega (arith, place.1), place.2))
        (may.each b)

    abbrev numbers : ℕ → ℕ
    numbers b = (number_in b).0

    pub choice_of : List ℕ
    choice_of = map numbers (waiting_blocks h)

    pub choice_small : ((b : ℕ) → b < n → length (values h b) ≤ 2 ^ 32) → All (λ number. number < 2 ^ 32) choice_of
    unfolding choice_of
    choice_small few i d below =
        let within : i < length (waiting_blocks h) = omega (arith, below, length-map (waiting_blocks h) numbers) in
        let b : ℕ = get_or (waiting_blocks h) i 0 in
        omega (arith, get_or-map numbers (waiting_blocks h) i 0 d within, (number_in b).1, few b (passing_below waits n i 0 within))

    pub choice_gives : crash_image h choice_of ≡ image
    unfolding choice_of
    choice_gives = ext_get_or [] (crash_image h choice_of) image (length-crash_image choice_of ∙ sym may.size)
        (λ b below. ⊎_elim
        (waiting b (omega (arith, below, length-crash_image choice_of)))
        (resting b (omega (arith, below, length-crash_image choice_of)))
        (cases_Bool (waits b)))
      where
        waiting : (b : ℕ) → b < n → waits b ≡ true → block_at (crash_image h choice_of) b ≡ block_at image b
        waiting b below is =
            let place = passing_place waits n 0 b (omega arith) (omega (arith, below)) is in
            let number : get_or choice_of place.0 0 ≡ numbers b = get_or-map numbers (waiting_blocks h) place.0 0 0 place.1 ∙ ap numbers place.2 in
            chosen_waiting choice_of place.0 b place.1 (sym place.2)
            ∙ ap (λ (k : ℕ). by_number (values h b) k) number
            ∙ by_number-small (values h b) (numbers b) (number_in b).1
            ∙ (number_in b).2

        resting : (b : ℕ) → b < n → waits b ≡ false → block_at (crash_image h choice_of) b ≡ block_at image b
        resting b below is =
            chosen_other choice_of b below is
            ∙ ⊎_elim
            (λ same. sym same)
            (λ waits_on.
            let place = place_of h.calls b (block_at image b) waits_on in
            absurd (omega (arith, place.1, ap (λ (ws : List (List ℕ)). length ws) (nothing_written h.calls b is))))
            (may.each b)
