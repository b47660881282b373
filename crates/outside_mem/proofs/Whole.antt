-- Blocks that all have 4096 bytes.
use Rattle.outside_mem.proofs.Imports.{◌≡◌, inl, inr, ⊎_elim, ℕ, ◌<◌, Bool, true, false, if◌then◌else◌, nat_eq, List, [], ◌∷◌, length, set, ◌∙◌, ap, arith, get_or-set_same, get_or-set_other, cases_eq, Image, Call, wrote, synced, block_at, reads_from, synced_from, EachWrite, Waits, length-reads_from, drop_writes}

-- each value that was written has 4096 bytes
abbrev pub AreWhole : List Call → Type 0
AreWhole calls = EachWrite (λ _ bytes. length bytes ≡ 4096) calls

pub waits_whole : (calls : List Call) → AreWhole calls → (b : ℕ) (bytes : List ℕ) → Waits calls b bytes → length bytes ≡ 4096
waits_whole [] each b bytes waits = absurd waits
waits_whole (wrote c other landed ∷ calls) each b bytes (inl both) = ap (λ (xs : List ℕ). length xs) both.1 ∙ each.0
waits_whole (wrote c other landed ∷ calls) each b bytes (inr waits) = waits_whole calls each.1 b bytes waits
waits_whole (synced ∷ calls) each b bytes waits = absurd waits

-- each block of an image has 4096 bytes
abbrev pub IsWholeImage : Image → Type 0
IsWholeImage image = (b : ℕ) → b < length image → length (block_at image b) ≡ 4096

pub whole_put : (image : Image) (c : ℕ) (bytes : List ℕ) (b : ℕ) → b < length image → length (block_at image b) ≡ 4096 → length bytes ≡ 4096 → length (block_at (set image c bytes) b) ≡ 4096
whole_put image c bytes b below before long = ⊎_elim
    (λ same.
    ap (λ (k : ℕ). length (block_at (set image c bytes) k)) same
    ∙ ap (λ (xs : List ℕ). length xs) (get_or-set_same image c bytes [] (omega (arith, same, below)))
    ∙ long)
    (λ other. ap (λ (xs : List ℕ). length xs) (get_or-set_other image c b bytes [] other) ∙ before)
    (cases_eq b c)

module _ (start : Image) (whole : IsWholeImage start) where
  pub reads_whole : (calls : List Call) → AreWhole calls → (b : ℕ) → b < length start → length (block_at (reads_from start calls) b) ≡ 4096
  reads_whole [] each b below = whole b below
  reads_whole (wrote c bytes true ∷ calls) each b below =
      whole_put (reads_from start calls) c bytes b (omega (arith, below, length-reads_from start calls)) (reads_whole calls each.1 b below) each.0
  reads_whole (wrote c bytes false ∷ calls) each b below = reads_whole calls each.1 b below
  reads_whole (synced ∷ calls) each b below = reads_whole calls each b below

  pub synced_whole : (calls : List Call) → AreWhole calls → (b : ℕ) → b < length start → length (block_at (synced_from start calls) b) ≡ 4096
  synced_whole [] each b below = whole b below
  synced_whole (wrote c bytes landed ∷ calls) each b below = synced_whole calls each.1 b below
  synced_whole (synced ∷ calls) each b below = reads_whole calls each b below

-- without the writes to a block, too
pub drop_whole : (n : ℕ) (calls : List Call) → AreWhole calls → AreWhole (drop_writes n calls)
drop_whole n [] each = each
drop_whole n (wrote b bytes landed ∷ calls) each = at (drop_whole n calls each.1) (nat_eq b n)
  where
    at : AreWhole (drop_writes n calls) → (t : Bool) → AreWhole (if t then drop_writes n calls else (wrote b bytes landed ∷ drop_writes n calls))
    at rest true = rest
    at rest false = (each.0, rest)
drop_whole n (synced ∷ calls) each = drop_whole n calls each
