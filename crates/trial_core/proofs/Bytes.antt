-- The blocks of a volume that hold bytes, and the mark of the used ones.
use Rattle.trial_core.proofs.Imports.{◌≡◌, ℕ, ◌<◌, Bool, true, false, List, [], ◌∷◌, Contains, refl, ◌∙◌, ap, slice_index, mark_of, SameUsed, Image, block_at, has, used_blocks, contains_head, contains_tail, used_of, HasBytes, numbered, used_mark, FreeAreBytes, UsedAreBytes}
use Rattle.reiser_bitmap.proofs.MoreLaws.{used_had}

pub all_bytes : (image : Image) → UsedAreBytes image → FreeAreBytes image → HasBytes image
all_bytes image used free b i = by (has (used_of image) b) refl
  where
    by : (t : Bool) → has (used_of image) b ≡ t → slice_index (block_at image b) i < 256
    by true is = used b is i
    by false is = free b is i

same_numbered : (image other : Image) (blocks : List ℕ) → ((b : ℕ) → Contains blocks b → block_at other b ≡ block_at image b) → numbered other blocks ≡ numbered image blocks
same_numbered image other [] same = refl
same_numbered image other (b ∷ bs) same =
    let first : block_at other b ≡ block_at image b = same b (contains_head b bs) in
    let rest = same_numbered image other bs (λ c among. same c (contains_tail c b bs among)) in
    ap (λ (bytes : List ℕ). (b, bytes) ∷ numbered other bs) first ∙ ap (λ (more : List (ℕ × List ℕ)). (b, block_at image b) ∷ more) rest

pub same_mark : (used : List Bool) (image other : Image) → SameUsed used image other → used_mark used other ≡ used_mark used image
same_mark used image other same =
    ap (λ (blocks : List (ℕ × List ℕ)). mark_of blocks) (same_numbered image other (used_blocks used) (λ b among. same b ((used_had used b).0 among)))
