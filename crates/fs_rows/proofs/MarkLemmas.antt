-- What a marker holds after a block was added.
use Rattle.fs_rows.proofs.Imports.{◌≡◌, ℕ, Bool, true, false, IsTrue, ◌↔◌, List, [], ◌∷◌, ◌++◌, true≢false, refl, sym, ◌∙◌, ap, subst, append_assoc, flat_map, flat_map-cons, bytes_decides, zeros, is_zeros, marked_block, Marks, Marker}
use Rattle.std.proofs.Common.{append-nil}
use Rattle.std.proofs.lemmas.Grind.{flat_map-append}
use Rattle.byteorder.specs.Endian.{little_bytes}
use Rattle.sha2.specs.Hashers.{Holds256}
use Rattle.sha2.specs.declared.Sha256.{Sha256}

contradiction : (t : Bool) → t ≡ false → IsTrue t → ⊥
contradiction true h k = absurd (true≢false h)
contradiction false h k = absurd (true≢false (sym k))

is_false : (t : Bool) → (t ≡ true → ⊥) → t ≡ false
is_false true never = absurd (never refl)
is_false false never = refl

-- a test for zeros that failed
pub not_zeros : (test : Bool) (bytes : List ℕ) → test ≡ false → (IsTrue test ↔ (bytes ≡ zeros)) → is_zeros bytes ≡ false
not_zeros test bytes failed decides =
    is_false (is_zeros bytes) (λ h.
    let holds : IsTrue test = decides.1 ((bytes_decides bytes zeros).0 h) in
    contradiction test failed holds)

pub skipped : (i : ℕ) (bytes : List ℕ) → bytes ≡ zeros → marked_block (i, bytes) ≡ []
skipped i bytes is = let h : is_zeros bytes ≡ true = (bytes_decides bytes zeros).1 is in rw h refl

kept : (i : ℕ) (bytes : List ℕ) → is_zeros bytes ≡ false → marked_block (i, bytes) ≡ little_bytes 8 i ++ bytes
kept i bytes h = rw h refl

pub message_more : (blocks : List (ℕ × List ℕ)) (block : ℕ × List ℕ) → flat_map marked_block (blocks ++ block ∷ []) ≡ flat_map marked_block blocks ++ marked_block block
message_more blocks block =
    flat_map-append marked_block blocks (block ∷ []) ∙ ap (λ (z : List ℕ). flat_map marked_block blocks ++ z) (flat_map-cons marked_block block [] ∙ append-nil (marked_block block))

pub marks_none : (m : Marker) → Holds256 m.hasher [] → Marks m []
unfolding Marks
marks_none m holds = holds

-- a block of zeros adds nothing
pub marks_zeros : (m : Marker) (blocks : List (ℕ × List ℕ)) (i : ℕ) (bytes : List ℕ) → bytes ≡ zeros → Marks m blocks → Marks m (blocks ++ (i, bytes) ∷ [])
unfolding Marks
marks_zeros m blocks i bytes is holds =
    let same : flat_map marked_block (blocks ++ (i, bytes) ∷ []) ≡ flat_map marked_block blocks =
    message_more blocks (i, bytes) ∙ ap (λ (z : List ℕ). flat_map marked_block blocks ++ z) (skipped i bytes is) ∙ append-nil (flat_map marked_block blocks) in
    subst (λ (z : List ℕ). Holds256 m.hasher z) (sym same) holds

-- any other block adds its index and its bytes
pub marks_block : (old : Marker) (mid : Sha256) (new : Marker) (blocks : List (ℕ × List ℕ)) (i : ℕ) (bytes number : List ℕ) → number ≡ little_bytes 8 i → is_zeros bytes ≡ false
    → ((m : List ℕ) → Holds256 old.hasher m → Holds256 mid (m ++ number)) → ((m : List ℕ) → Holds256 mid m → Holds256 new.hasher (m ++ bytes)) → Marks old blocks → Marks new (blocks ++ (i, bytes) ∷ [])
unfolding Marks
marks_block old mid new blocks i bytes number is nonzero first next holds =
    let done : List ℕ = flat_map marked_block blocks in
    let text : (done ++ number) ++ bytes ≡ flat_map marked_block (blocks ++ (i, bytes) ∷ []) =
    append_assoc done number bytes ∙ ap (λ (z : List ℕ). done ++ (z ++ bytes)) is ∙ ap (λ (z : List ℕ). done ++ z) (sym (kept i bytes nonzero)) ∙ sym (message_more blocks (i, bytes)) in
    subst (λ (z : List ℕ). Holds256 new.hasher z) text (next (done ++ number) (first done holds))
