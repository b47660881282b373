-- How the bytes of a file go on.
use Rattle.fs_rows.proofs.Imports.{◌≡◌, ℕ, ◌+◌, ◌-◌, ◌*◌, ◌<◌, ◌≤◌, List, [], ◌∷◌, ◌++◌, sym, ap, subst, ◌∙◌, arith, zeros, Marks, Marker, FileBytes, block_by, blocks_by, HoldsBytes}
use Rattle.fs_rows.proofs.Functions.{same_block, zero_block}
use Rattle.fs_rows.proofs.Messages.{blocks_more, same_blocks, marks_further}

-- only what a function gives counts
pub held_same : (m : FileBytes) (f g : ℕ → ℕ) → ((n : ℕ) → f n ≡ g n) → HoldsBytes m f → HoldsBytes m g
held_same m f g same held = record {
  done = subst (λ (bs : List (ℕ × List ℕ)). Marks m.marker bs) (same_blocks f g m.next (λ i h. same i)) held.done;
  in_hand = held.in_hand ∙ same_block f g m.next (λ n from to. same n);
  rest = λ n from. sym (same n) ∙ held.rest n from;
}

-- the block in hand was added to the marker
pub closed : (m : FileBytes) (marker : Marker) (f : ℕ → ℕ) → ((blocks : List (ℕ × List ℕ)) → Marks m.marker blocks → Marks marker (blocks ++ (m.next, m.block.bytes) ∷ []))
    → HoldsBytes m f → Marks marker (blocks_by f (m.next + 1))
closed m marker f adds held =
    let one : Marks marker (blocks_by f m.next ++ (m.next, m.block.bytes) ∷ []) = adds (blocks_by f m.next) held.done in
    let two : Marks marker (blocks_by f m.next ++ (m.next, block_by f m.next) ∷ []) =
    subst (λ (b : List ℕ). Marks marker (blocks_by f m.next ++ (m.next, b) ∷ [])) held.in_hand one in
    subst (λ (bs : List (ℕ × List ℕ)). Marks marker bs) (sym (blocks_more f m.next)) two

-- a later block was taken in hand, of which nothing is known yet
pub gone_to : (m m' : FileBytes) (k : ℕ) (f : ℕ → ℕ) → m'.next ≡ k → m.next < k
    → ((blocks : List (ℕ × List ℕ)) → Marks m.marker blocks → Marks m'.marker (blocks ++ (m.next, m.block.bytes) ∷ []))
    → m'.block.bytes ≡ zeros → HoldsBytes m f → HoldsBytes m' f
gone_to m m' k f next low adds empty held =
    let far : Marks m'.marker (blocks_by f (m.next + 1 + (k - (m.next + 1)))) =
    marks_further m'.marker f (m.next + 1) (k - (m.next + 1)) (λ i from to. held.rest i (omega arith)) (closed m m'.marker f adds held) in
    let is : m.next + 1 + (k - (m.next + 1)) ≡ m'.next = omega (arith, next) in
    record {
      done = subst (λ (n : ℕ). Marks m'.marker (blocks_by f n)) is far;
      in_hand = empty ∙ zero_block f m'.next (λ n from to. held.rest n (omega (arith, next, low, from)));
      rest = λ n from. held.rest n (omega (arith, next, low, from));
    }

-- the block in hand was changed, and with it the function there alone
pub replaced : (m m' : FileBytes) (f g : ℕ → ℕ) → m'.marker ≡ m.marker → m'.next ≡ m.next → ((n : ℕ) → n < 4096 * m.next → g n ≡ f n) → ((n : ℕ) → 4096 * m.next + 4096 ≤ n → g n ≡ f n)
    → m'.block.bytes ≡ block_by g m.next → HoldsBytes m f → HoldsBytes m' g
replaced m m' f g marker next below above is held = record {
  done =
      subst (λ (k : Marker). Marks k (blocks_by g m'.next)) (sym marker)
      (subst (λ (n : ℕ). Marks m.marker (blocks_by g n)) (sym next) (subst (λ (bs : List (ℕ × List ℕ)). Marks m.marker bs) (same_blocks f g m.next (λ i h. sym (below i h))) held.done));
  in_hand = is ∙ ap (block_by g) (sym next);
  rest = λ n from. above n (omega (arith, next, from)) ∙ held.rest n (omega (arith, next, from));
}
