-- The places of copies and tails.
use Rattle.extent_pieces.proofs.Imports.{◌≡◌, ℕ, zero, suc, ◌+◌, ◌-◌, ◌*◌, ◌/◌, ◌%◌, ◌<◌, ◌≤◌, List, [], ◌∷◌, ◌++◌, None, length, get_or, take, drop, refl, sym, ◌∙◌, ap, arith, ⊎_elim, length-append, length-take, length-drop, range_with_len, cases_lt, ext_get_or, get_or_append_left, get_or-append_right, get_or-take, get_or-drop, length-range_with_len, get_or-range_with_len, Piece, at_place, at_places, blocks_of_units}

pub length-at_places : (ps : List Piece) (bs : List ℕ) → length ps ≤ length bs → length (at_places ps bs) ≡ length ps
length-at_places [] bs few = refl
length-at_places (p ∷ ps) [] few = absurd (omega arith)
length-at_places (p ∷ ps) (b ∷ bs) few = ap suc (length-at_places ps bs (omega arith))

pub get_or-at_places : (ps : List Piece) (bs : List ℕ) (i : ℕ) (d : Piece) → length ps ≤ length bs → i < length ps → get_or (at_places ps bs) i d ≡ at_place (get_or ps i d) (get_or bs i 0)
get_or-at_places [] bs i d few inside = absurd (omega arith)
get_or-at_places (p ∷ ps) [] i d few inside = absurd (omega arith)
get_or-at_places (p ∷ ps) (b ∷ bs) zero d few inside = refl
get_or-at_places (p ∷ ps) (b ∷ bs) (suc i) d few inside = get_or-at_places ps bs i d (omega arith) (omega arith)

-- the blocks of units by their numbers
pub length-blocks : (units : List ℕ) → length (blocks_of_units units) ≡ 256 * length units
length-blocks [] = refl
length-blocks (u ∷ units) = omega (arith, length-append (range_with_len (256 * u) 256) (blocks_of_units units), length-range_with_len (256 * u) 256, length-blocks units)

pub get_or-blocks : (units : List ℕ) (i : ℕ) → i < 256 * length units → get_or (blocks_of_units units) i 0 ≡ 256 * get_or units (i / 256) 0 + i % 256
get_or-blocks [] i inside = absurd (omega arith)
get_or-blocks (u ∷ units) i inside =
    ⊎_elim
    (λ (here : i < 256).
    let first : i / 256 ≡ 0 = omega arith in
    let rest : i % 256 ≡ i = omega arith in
    get_or_append_left (range_with_len (256 * u) 256) (blocks_of_units units) 0 i (omega (arith, length-range_with_len (256 * u) 256))
    ∙ (get_or-range_with_len (256 * u) 256 i 0 here ∙ rw (first, rest) refl))
    (λ (later : 256 ≤ i).
    let place : i / 256 ≡ suc ((i - 256) / 256) = omega arith in
    let rest : i % 256 ≡ (i - 256) % 256 = omega arith in
    get_or-append_right (range_with_len (256 * u) 256) (blocks_of_units units) 256 i 0 (length-range_with_len (256 * u) 256) later
    ∙ (get_or-blocks units (i - 256) (omega arith) ∙ rw (place, rest) refl))
    (cases_lt i 256)

-- After the pieces below number i got their places.
pub record Places (kept : ℕ) (blocks : List ℕ) (old new : List Piece) (i : ℕ) : Type 0 where
  pub size : length new ≡ length old
  pub first : (k : ℕ) (d : Piece) → k < kept → get_or new k d ≡ get_or old k d
  pub placed : (k : ℕ) (d : Piece) → kept ≤ k → k < i → get_or new k d ≡ at_place (get_or old k d) (get_or blocks (k - kept) 0)
  pub rest : (k : ℕ) (d : Piece) → i ≤ k → k < length old → get_or new k d ≡ get_or old k d

pub places_all : (kept : ℕ) (blocks : List ℕ) (old new : List Piece) → kept ≤ length old → length old - kept ≤ length blocks → Places kept blocks old new (length old)
    → new ≡ take kept old ++ at_places (drop kept old) blocks
places_all kept blocks old new few room done =
    let p : Piece = record { from = None; count = 0; owner = None; place = 0 } in
    let moved : List Piece = at_places (drop kept old) blocks in
    let front : length (take kept old) ≡ kept = omega (arith, length-take kept old) in
    let back : length moved ≡ length old - kept = length-at_places (drop kept old) blocks (omega (arith, length-drop kept old)) ∙ length-drop kept old in
    ext_get_or p new (take kept old ++ moved) (done.size ∙ sym (omega (arith, length-append (take kept old) moved, front, back)))
    (λ i inside.
    ⊎_elim
    (λ (early : i < kept).
    done.first i p early ∙ sym (get_or_append_left (take kept old) moved p i (omega (arith, front)) ∙ get_or-take kept old i p early))
    (λ (late : kept ≤ i).
    done.placed i p late (omega (arith, done.size))
    ∙ sym (get_or-append_right (take kept old) moved kept i p front late
    ∙ (get_or-at_places (drop kept old) blocks (i - kept) p (omega (arith, length-drop kept old)) (omega (arith, length-drop kept old, done.size))
    ∙ ap (λ (q : Piece). at_place q (get_or blocks (i - kept) 0)) (get_or-drop kept old (i - kept) p ∙ ap (λ (k : ℕ). get_or old k p) (let e : kept + (i - kept) ≡ i = omega arith in e)))))
    (cases_lt i kept))
