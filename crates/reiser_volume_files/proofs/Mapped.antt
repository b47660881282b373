-- What a mapper holds after one more item, or after a part of one.
use Rattle.reiser_volume_files.proofs.Imports.{◌≡◌, ◌≢◌, ℕ, ◌+◌, ◌-◌, ◌*◌, ◌/◌, ◌<◌, ◌≤◌, min, eqb, List, [], ◌∷◌, ◌++◌, length, get_or, Option, Some, None, Result, OnOk, sym, ap, subst, ◌∙◌, arith, inl, inr, div_ceil, cases_lt, cases_eq, cond-false, ne_eqb, Indirect, Direct, pointers, ReiserItem, joined_at, joined_below, joined_above, joined_on, joined_end, RunFrom, Disk, FileMapper, first_byte, byte_count, end_of, EndsBy, MayFollow, OverlaysTail, OverlaysDisks, block_from, disk_or_hole, HoldsRuns, MapsFile}
use Rattle.reiser_volume_files.proofs.Joining.{runs_same}
use Rattle.reiser_volume_files.proofs.Adding.{all_before, all_last, on_ok, on_ok_both}
use Rattle.reiser_volume_files.proofs.Contents.{count_direct, count_indirect}
use Rattle.reiser_volume_files.proofs.Placing.{empty_from, direct_tails, indirect_disks}

-- one more block has gone over, and no other one has changed
pub others_stay : (g f : ℕ → Option RunFrom) (k j : ℕ) → j ≢ k → joined_at (k + 1) g f j ≡ joined_at k g f j
others_stay g f k j other =
    elim (cases_lt j k) as (λ _. joined_at (k + 1) g f j ≡ joined_at k g f j) [
      | inl h ↦ joined_below (k + 1) g f j (omega (arith, h)) ∙ sym (joined_below k g f j h)
      | inr h ↦
          elim (cases_lt k j) as (λ _. joined_at (k + 1) g f j ≡ joined_at k g f j) [
            | inl h' ↦ joined_above (k + 1) g f j (omega (arith, h')) ∙ sym (joined_above k g f j h)
            | inr h' ↦ absurd (other (omega (arith, h, h')))
          ]
    ]

pub hole_stays : (size first : ℕ) (body : List ℕ) (f g : ℕ → Option RunFrom) (j : ℕ) → OverlaysDisks size first body f g → j < length body / 4 → get_or (pointers body) j 0 ≡ 0
    → (k : ℕ) → joined_at (first + j) g f k ≡ joined_at (first + (j + 1)) g f k
hole_stays size first body f g j over within hole =
    joined_on (first + j) (first + (j + 1)) g f (omega arith) (λ k low high.
    let is : k - first ≡ j = omega (arith, low, high) in
    elim (cases_lt (4096 * k) size) as (λ _. g k ≡ f k) [
      | inl below ↦
          over.inside k (omega (arith, low)) (omega (arith, high, within)) below ∙ ap (λ (n : ℕ). disk_or_hole (get_or (pointers body) n 0)) is
          ∙ ap (λ (p : ℕ). disk_or_hole p) hole ∙ sym (over.empty k (omega (arith, low)) (omega (arith, high, within)))
      | inr past ↦ over.past k past
    ])

pub disk_there : (size first : ℕ) (body : List ℕ) (f g : ℕ → Option RunFrom) (j block : ℕ) → OverlaysDisks size first body f g → j < length body / 4 → 4096 * (first + j) < size
    → get_or (pointers body) j 0 ≡ block → block ≢ 0 → joined_at (first + (j + 1)) g f (first + j) ≡ Some (Disk block)
disk_there size first body f g j block over within below named some =
    let is : first + j - first ≡ j = omega arith in
    joined_below (first + (j + 1)) g f (first + j) (omega arith) ∙ over.inside (first + j) (omega arith) (omega (arith, within)) below
    ∙ ap (λ (n : ℕ). disk_or_hole (get_or (pointers body) n 0)) is ∙ ap (λ (p : ℕ). disk_or_hole p) named ∙ cond-false (eqb block 0) None (Some (Disk block)) (ne_eqb block 0 some)

pub disks_end : (size first count : ℕ) (body : List ℕ) (f g : ℕ → Option RunFrom) → OverlaysDisks size first body f g → count ≡ min (length body / 4) (div_ceil size 4096 - first)
    → (k : ℕ) → joined_at (first + count) g f k ≡ g k
disks_end size first count body f g over is =
    joined_end (first + count) g f (λ k h.
    elim (cases_lt (4096 * k) size) as (λ _. g k ≡ f k) [
      | inl below ↦ over.above k (omega (arith, is, h, below))
      | inr past ↦ over.past k past
    ])

pub maps_empty : (m m' : FileMapper) (given : List ReiserItem) (i : ReiserItem) → m' ≡ m → byte_count i.head.kind i.body ≡ 0 → MapsFile m given → MapsFile m' (given ++ i ∷ [])
maps_empty m m' given i is none maps =
    subst (λ (n : FileMapper). MapsFile n (given ++ i ∷ [])) (sym is) (record {
      runs = runs_same m _ _ (empty_from given i m.size none) maps.runs;
      reached = λ b all. maps.reached b (all_before (EndsBy b) given i all);
    })

maps_more : (m m' : FileMapper) (given : List ReiserItem) (i : ReiserItem) → m'.size ≡ m.size → byte_count i.head.kind i.body ≢ 0 → HoldsRuns m' (block_from (given ++ i ∷ []) m.size)
    → 4096 * m'.next ≤ end_of i → MapsFile m' (given ++ i ∷ [])
maps_more m m' given i size some held end = record {
  runs = subst (λ (s : ℕ). HoldsRuns m' (block_from (given ++ i ∷ []) s)) (sym size) held;
  reached = λ b all. let last = all_last (EndsBy b) given i all some in omega (arith, end, last);
}

pub maps_direct : {T E : Type 0} (r : Result T E) (m m' : FileMapper) (given : List ReiserItem) (i : ReiserItem) (at : ℕ) (body : List ℕ) → i.head.kind ≡ Direct → at ≡ first_byte i → i.body ≡ body
    → m'.size ≡ m.size → (4096 * m.next ≤ at → OnOk r (4096 * m'.next ≤ at + length body)) → (length body ≡ 0 → m' ≡ m)
    → ((f g : ℕ → Option RunFrom) → OverlaysTail at (min (length body) (m.size - at)) f g → 4096 * m.next ≤ at → HoldsRuns m f → OnOk r (HoldsRuns m' g))
    → MayFollow given i → MapsFile m given → OnOk r (MapsFile m' (given ++ i ∷ []))
maps_direct r m m' given i at body is from same size near none adds may maps =
    let counted : byte_count i.head.kind i.body ≡ length body = count_direct i is ∙ ap length same in
    elim (cases_eq (length body) 0) as (λ _. OnOk r (MapsFile m' (given ++ i ∷ []))) [
      | inl e ↦ on_ok r (maps_empty m m' given i (none e) (counted ∙ e) maps)
      | inr ne ↦
          let some : byte_count i.head.kind i.body ≢ 0 = λ (e : byte_count i.head.kind i.body ≡ 0). ne (sym counted ∙ e) in
          let low : 4096 * m.next ≤ at = omega (arith, maps.reached (first_byte i) (may.follows some), from) in
          let over : OverlaysTail at (min (length body) (m.size - at)) (block_from given m.size) (block_from (given ++ i ∷ []) m.size) =
          subst (λ (a : ℕ). OverlaysTail a (min (length body) (m.size - a)) (block_from given m.size) (block_from (given ++ i ∷ []) m.size)) (sym from)
          (subst (λ (b : List ℕ). OverlaysTail (first_byte i) (min (length b) (m.size - first_byte i)) (block_from given m.size) (block_from (given ++ i ∷ []) m.size)) same (direct_tails given i m.size is)) in
          on_ok_both r (adds _ _ over low maps.runs) (near low) (λ held end. maps_more m m' given i size some held (omega (arith, end, from, counted)))
    ]

pub maps_indirect : {T E : Type 0} (r : Result T E) (m m' : FileMapper) (given : List ReiserItem) (i : ReiserItem) (first : ℕ) (body : List ℕ) → i.head.kind ≡ Indirect
    → first ≡ first_byte i / 4096 → i.body ≡ body → m'.size ≡ m.size → (m.next ≤ first → OnOk r (m'.next ≤ first + length body / 4)) → (length body / 4 ≡ 0 → m' ≡ m)
    → ((f g : ℕ → Option RunFrom) → OverlaysDisks m.size first body f g → m.next ≤ first → HoldsRuns m f → OnOk r (HoldsRuns m' g))
    → MayFollow given i → MapsFile m given → OnOk r (MapsFile m' (given ++ i ∷ []))
maps_indirect r m m' given i first body is from same size near none adds may maps =
    let counted : byte_count i.head.kind i.body ≡ 4096 * (length body / 4) = count_indirect i is ∙ ap (λ (b : List ℕ). 4096 * (length b / 4)) same in
    elim (cases_eq (length body / 4) 0) as (λ _. OnOk r (MapsFile m' (given ++ i ∷ []))) [
      | inl e ↦ on_ok r (maps_empty m m' given i (none e) (omega (arith, counted, e)) maps)
      | inr ne ↦
          let some : byte_count i.head.kind i.body ≢ 0 = λ (e : byte_count i.head.kind i.body ≡ 0). ne (omega (arith, counted, e)) in
          let low : m.next ≤ first = omega (arith, maps.reached (first_byte i) (may.follows some), from) in
          let over : OverlaysDisks m.size first body (block_from given m.size) (block_from (given ++ i ∷ []) m.size) =
          subst (λ (a : ℕ). OverlaysDisks m.size a body (block_from given m.size) (block_from (given ++ i ∷ []) m.size)) (sym from)
          (subst (λ (b : List ℕ). OverlaysDisks m.size (first_byte i / 4096) b (block_from given m.size) (block_from (given ++ i ∷ []) m.size)) same (indirect_disks given i m.size is may)) in
          on_ok_both r (adds _ _ over low maps.runs) (near low) (λ held end. maps_more m m' given i size some held (omega (arith, end, from, counted)))
    ]
