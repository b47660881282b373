-- Which blocks were reached.
use Rattle.std.specs.Prelude.{◌≡◌, ◌<◌, ℕ, Bool, not, List, [], ◌∷◌, length, count_by, Result, Contains}
use Rattle.std.specs.Result.{MatchResult}
use Rattle.reiser_bitmap.specs.refusals.declared.refusal.VolumeRefusal.{VolumeRefusal}
use Rattle.reiser_bitmap.specs.Bits.{has}
use Rattle.reiser_walk.specs.declared.block_pointer.BlockPointer.{BlockPointer}
use Rattle.reiser_walk.specs.Rules.{is_in}

-- the blocks of a list, after those seen before
abbrev pub seen_after : List ℕ → List BlockPointer → List ℕ
seen_after seen [] = seen
seen_after seen (p ∷ ps) = seen_after (p.block ∷ seen) ps

-- the set has just the blocks that were seen
abbrev pub MarksSeen : List Bool → List ℕ → Type 0
MarksSeen set seen = (b : ℕ) → b < length set → has set b ≡ is_in seen b

-- how many blocks the set has not
abbrev pub unmarked : List Bool → ℕ
unmarked set = count_by not set

-- Blocks with these damages were claimed: at Ok there is no damage and they are marked, at Err it is one of the damages.
abbrev pub Claims : List VolumeRefusal → List Bool → List ℕ → Result Unit VolumeRefusal → Type 0
Claims damages set seen result = MatchResult result (λ _. (damages ≡ []) × MarksSeen set seen) (Contains damages)
