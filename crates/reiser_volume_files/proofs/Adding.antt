-- What a marker holds after one more item.
use Rattle.reiser_volume_files.proofs.Imports.{◌≡◌, ◌≢◌, ℕ, ◌+◌, ◌-◌, ◌*◌, ◌/◌, ◌≤◌, List, [], ◌∷◌, ◌++◌, length, take, All, Result, Ok, Err, OnOk, sym, ap, subst, ◌∙◌, arith, inl, inr, ◌⊎◌, cases_eq, All-nil, All-cons, All-head, All-tail, Image, ItemKind, Stat, Indirect, Direct, Directory, ReiserItem, HoldsBytes, Overlays, FileMarker, first_byte, byte_count, end_of, content, EndsBy, MayFollow, OverlaysNamed, MarksFile, held_same}
use Rattle.reiser_volume_files.proofs.Contents.{empty_item, direct_overlays, indirect_overlays, count_direct, count_indirect}

pub all_before : {X : Type 0} (P : X → Type 0) → (xs : List X) (y : X) → All P (xs ++ y ∷ []) → All P xs
all_before P [] y all = All-nil P
all_before P (x ∷ xs) y all = All-cons P x xs (All-head P x (xs ++ y ∷ []) all) (all_before P xs y (All-tail P x (xs ++ y ∷ []) all))

pub all_last : {X : Type 0} (P : X → Type 0) → (xs : List X) (y : X) → All P (xs ++ y ∷ []) → P y
all_last P [] y all = All-head P y [] all
all_last P (x ∷ xs) y all = all_last P xs y (All-tail P x (xs ++ y ∷ []) all)

pub on_ok_both : {T E : Type 0} {P Q R : Type 0} (r : Result T E) → OnOk r P → OnOk r Q → (P → Q → R) → OnOk r R
on_ok_both (Ok x) p q both = both p q
on_ok_both (Err e) p q both = tt

pub on_ok : {T E : Type 0} {P : Type 0} (r : Result T E) → P → OnOk r P
on_ok (Ok x) p = p
on_ok (Err e) p = tt

-- an item without bytes leaves the marker as it is
pub marks_empty : (m m' : FileMarker) (image : Image) (given : List ReiserItem) (i : ReiserItem) → m' ≡ m → byte_count i.head.kind i.body ≡ 0 → MarksFile m image given → MarksFile m' image (given ++ i ∷ [])
marks_empty m m' image given i is none marks =
    subst (λ (n : FileMarker). MarksFile n image (given ++ i ∷ [])) (sym is) (record {
      bytes = held_same m.file _ _ (empty_item image given i m.file.size none) marks.bytes;
      reached = λ b all. marks.reached b (all_before (EndsBy b) given i all);
    })

-- an item with bytes adds them
pub marks_more : (m m' : FileMarker) (image : Image) (given : List ReiserItem) (i : ReiserItem) → m'.file.size ≡ m.file.size → byte_count i.head.kind i.body ≢ 0
    → HoldsBytes m'.file (content image (given ++ i ∷ []) m.file.size) → 4096 * m'.file.next ≤ end_of i → MarksFile m' image (given ++ i ∷ [])
marks_more m m' image given i size some held end = record {
  bytes = subst (λ (s : ℕ). HoldsBytes m'.file (content image (given ++ i ∷ []) s)) (sym size) held;
  reached = λ b all. let last = all_last (EndsBy b) given i all some in omega (arith, end, last);
}

pub marks_direct : (m m' : FileMarker) (image : Image) (given : List ReiserItem) (i : ReiserItem) (at : ℕ) (body : List ℕ) → i.head.kind ≡ Direct → at ≡ first_byte i → i.body ≡ body
    → m'.file.size ≡ m.file.size → (4096 * m.file.next ≤ at → 4096 * m'.file.next ≤ at + length body) → (length body ≡ 0 → m' ≡ m)
    → ((f g : ℕ → ℕ) → Overlays at (take (m.file.size - at) body) f g → 4096 * m.file.next ≤ at → HoldsBytes m.file f → HoldsBytes m'.file g)
    → MayFollow given i → MarksFile m image given → MarksFile m' image (given ++ i ∷ [])
marks_direct m m' image given i at body is from same size near none adds may marks =
    let counted : byte_count i.head.kind i.body ≡ length body = count_direct i is ∙ ap length same in
    elim (cases_eq (length body) 0) as (λ _. MarksFile m' image (given ++ i ∷ [])) [
      | inl e ↦ marks_empty m m' image given i (none e) (counted ∙ e) marks
      | inr ne ↦
          let some : byte_count i.head.kind i.body ≢ 0 = λ (e : byte_count i.head.kind i.body ≡ 0). ne (sym counted ∙ e) in
          let low : 4096 * m.file.next ≤ at = omega (arith, marks.reached (first_byte i) (may.follows some), from) in
          let over : Overlays at (take (m.file.size - at) body) (content image given m.file.size) (content image (given ++ i ∷ []) m.file.size) =
          subst (λ (a : ℕ). Overlays a (take (m.file.size - a) body) (content image given m.file.size) (content image (given ++ i ∷ []) m.file.size)) (sym from)
          (subst (λ (b : List ℕ). Overlays (first_byte i) (take (m.file.size - first_byte i) b) (content image given m.file.size) (content image (given ++ i ∷ []) m.file.size)) same (direct_overlays image given i m.file.size is may)) in
          marks_more m m' image given i size some (adds _ _ over low marks.bytes) (omega (arith, near low, from, counted))
    ]

pub marks_indirect : {T E : Type 0} (r : Result T E) (m m' : FileMarker) (image : Image) (given : List ReiserItem) (i : ReiserItem) (first : ℕ) (body : List ℕ) → i.head.kind ≡ Indirect
    → first ≡ first_byte i / 4096 → i.body ≡ body → m'.file.size ≡ m.file.size → (m.file.next ≤ first → OnOk r (m'.file.next ≤ first + length body / 4)) → (length body / 4 ≡ 0 → m' ≡ m)
    → ((f g : ℕ → ℕ) → OverlaysNamed image m.file.size first body f g → m.file.next ≤ first → HoldsBytes m.file f → OnOk r (HoldsBytes m'.file g))
    → MayFollow given i → MarksFile m image given → OnOk r (MarksFile m' image (given ++ i ∷ []))
marks_indirect r m m' image given i first body is from same size near none adds may marks =
    let counted : byte_count i.head.kind i.body ≡ 4096 * (length body / 4) = count_indirect i is ∙ ap (λ (b : List ℕ). 4096 * (length b / 4)) same in
    elim (cases_eq (length body / 4) 0) as (λ _. OnOk r (MarksFile m' image (given ++ i ∷ []))) [
      | inl e ↦ on_ok r (marks_empty m m' image given i (none e) (omega (arith, counted, e)) marks)
      | inr ne ↦
          let some : byte_count i.head.kind i.body ≢ 0 = λ (e : byte_count i.head.kind i.body ≡ 0). ne (omega (arith, counted, e)) in
          let low : m.file.next ≤ first = omega (arith, marks.reached (first_byte i) (may.follows some), from) in
          let over : OverlaysNamed image m.file.size first body (content image given m.file.size) (content image (given ++ i ∷ []) m.file.size) =
          subst (λ (a : ℕ). OverlaysNamed image m.file.size a body (content image given m.file.size) (content image (given ++ i ∷ []) m.file.size)) (sym from)
          (subst (λ (b : List ℕ). OverlaysNamed image m.file.size (first_byte i / 4096) b (content image given m.file.size) (content image (given ++ i ∷ []) m.file.size)) same (indirect_overlays image given i m.file.size is may)) in
          on_ok_both r (adds _ _ over low marks.bytes) (near low) (λ held end. marks_more m m' image given i size some held (omega (arith, end, from, counted)))
    ]

-- an item of stat data or of entries has no bytes
pub no_bytes : (i : ReiserItem) → (i.head.kind ≡ Stat) ⊎ (i.head.kind ≡ Directory) → byte_count i.head.kind i.body ≡ 0
no_bytes i (inl is) = ap (λ (kind : ItemKind). byte_count kind i.body) is
no_bytes i (inr is) = ap (λ (kind : ItemKind). byte_count kind i.body) is
