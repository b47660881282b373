-- Laws of the bytes of a file.
use Rattle.reiser_volume_files.proofs.Imports.{◌≡◌, ◌≢◌, ℕ, ◌+◌, ◌*◌, ◌/◌, ◌%◌, ◌<◌, ◌≤◌, cond, eqb, List, ◌∷◌, ◌++◌, length, get_or, unwrap_or, refl, sym, ap, subst, ◌∙◌, arith, inl, inr, cases_lt, cases_eq, get_or_at, get_or_append_left, length-append, All-from_get_or, Image, block_at, ReiserItem, same_bytes, first_byte, end_of, direct_byte, named_block, block_byte, file_byte, file_bytes, EndsBy, FollowsAll, SharesByte, AreItemsApart, AreInOrder}

-- the bytes are the same where the named blocks are
pub named_decide : (image other : Image) (items : List ReiserItem) (size : ℕ)
    → ((k : ℕ) → 4096 * k < size → named_block items k ≢ 0 → block_at other (named_block items k) ≡ block_at image (named_block items k))
    → file_bytes other items size ≡ file_bytes image items size
named_decide image other items size agree =
    same_bytes size (file_byte other items) (file_byte image items) 0 (λ n h.
    let low : 4096 * ((0 + n) / 4096) < size = omega (arith, h) in
    let block : ℕ = named_block items ((0 + n) / 4096) in
    let same : block_byte other (named_block items ((0 + n) / 4096)) ((0 + n) % 4096) ≡ block_byte image (named_block items ((0 + n) / 4096)) ((0 + n) % 4096) =
    elim (cases_eq (named_block items ((0 + n) / 4096)) 0) as (λ _. block_byte other (named_block items ((0 + n) / 4096)) ((0 + n) % 4096) ≡ block_byte image (named_block items ((0 + n) / 4096)) ((0 + n) % 4096)) [
      | inl none ↦ ap (λ (b : ℕ). block_byte other b ((0 + n) % 4096)) none ∙ sym (ap (λ (b : ℕ). block_byte image b ((0 + n) % 4096)) none)
      | inr some ↦
          ap (λ (bytes : List ℕ). cond (eqb (named_block items ((0 + n) / 4096)) 0) 0 (get_or bytes ((0 + n) % 4096) 0)) (agree ((0 + n) / 4096) low some)
    ] in
    ap (λ (b : ℕ). unwrap_or (direct_byte items (0 + n)) b) same)

-- items in order that are apart follow each other
pub apart_follow : (before : List ReiserItem) (i : ReiserItem) (later : List ReiserItem) → AreInOrder (before ++ i ∷ later) → AreItemsApart (before ++ i ∷ later) → FollowsAll before i
apart_follow before i later order apart = λ some.
    All-from_get_or (EndsBy (first_byte i)) before i (λ k h.
    let long : length (before ++ i ∷ later) ≡ length before + length (i ∷ later) = length-append before (i ∷ later) in
    let within : length before < length (before ++ i ∷ later) = omega (arith, long) in
    let e : ReiserItem = get_or before k i in
    let this : get_or (before ++ i ∷ later) k i ≡ get_or before k i = get_or_append_left before (i ∷ later) i k h in
    let that : get_or (before ++ i ∷ later) (length before) i ≡ i = get_or_at before i later i (length before) refl in
    let sorted : first_byte (get_or before k i) ≤ first_byte i =
    subst (λ (y : ReiserItem). first_byte (get_or before k i) ≤ first_byte y) that
    (subst (λ (x : ReiserItem). first_byte x ≤ first_byte (get_or (before ++ i ∷ later) (length before) i)) this (order k (length before) i h within)) in
    let never : SharesByte (get_or before k i) i → ⊥ =
    subst (λ (y : ReiserItem). SharesByte (get_or before k i) y → ⊥) that
    (subst (λ (x : ReiserItem). SharesByte x (get_or (before ++ i ∷ later) (length before) i) → ⊥) this (apart k (length before) i h within)) in
    λ _.
    elim (cases_lt (first_byte i) (end_of (get_or before k i))) as (λ _. end_of (get_or before k i) ≤ first_byte i) [
      | inl over ↦ absurd (never (record { byte = first_byte i; first_from = sorted; first_to = over; second_from = omega arith; second_to = omega (arith, some) }))
      | inr fits ↦ fits
    ])
