-- The bytes of a block of addresses lie in one block of the device, where ranges begin and end with blocks.
use Rattle.btr_reader_contents.proofs.Imports.{◌≡◌, ℕ, ◌+◌, ◌-◌, ◌/◌, ◌%◌, ◌<◌, ◌≤◌, Bool, true, false, if◌then◌else◌, List, [], ◌∷◌, get_or, Option, Some, None, refl, sym, ap, ◌∙◌, arith, nat_tests, get_or-replicate, All-head, All-tail, option_map, Image, block_at, MapRange, holds, place, holds_bounds, IsInBlocks, AreInBlocks, block_or_zeros, byte_of_place}
use Rattle.btr_reader_walk.specs.vol_block.Volume.{zeros}

-- a range holds all bytes of a block or none
holds_same : (r : MapRange) (a j : ℕ) (t : Bool) → IsInBlocks r → a % 4096 ≡ 0 → j < 4096 → holds r a ≡ t → holds r (a + j) ≡ t
holds_same r a j true whole at low held =
    let bounds = holds_bounds r a held in
    let above : r.logical ≤ a + j = omega (arith, bounds.0) in
    let under : a + j < r.logical + r.length = omega (arith, bounds.1, whole.logical, whole.length, at, low) in
    grind (arith, nat_tests, above, under)
holds_same r a j false whole at low held =
    not_held (holds r (a + j)) refl
  where
    not_held : (t : Bool) → holds r (a + j) ≡ t → t ≡ false
    not_held false is = refl
    not_held true is =
        let bounds = holds_bounds r (a + j) is in
        let above : r.logical ≤ a = omega (arith, bounds.0, whole.logical, at, low) in
        let under : a < r.logical + r.length = omega (arith, bounds.1) in
        grind (arith, nat_tests, above, under, held)

by_test : (image : Image) (r : MapRange) (others others' : Option ℕ) (a j : ℕ) (t : Bool) → IsInBlocks r → a % 4096 ≡ 0 → j < 4096 → holds r a ≡ t
    → byte_of_place image others' ≡ get_or (block_or_zeros image others) j 0
    → byte_of_place image (if t then Some (r.physical + (a + j - r.logical)) else others') ≡ get_or (block_or_zeros image (if t then Some (r.physical + (a - r.logical)) else others)) j 0
by_test image r others others' a j true whole at low held rest =
    let bounds = holds_bounds r a held in
    let block : (r.physical + (a + j - r.logical)) / 4096 ≡ (r.physical + (a - r.logical)) / 4096 = omega (arith, bounds.0, whole.logical, whole.physical, at, low) in
    let byte : (r.physical + (a + j - r.logical)) % 4096 ≡ j = omega (arith, bounds.0, whole.logical, whole.physical, at, low) in
    ap (λ (b : ℕ). get_or (block_at image b) ((r.physical + (a + j - r.logical)) % 4096) 0) block
    ∙ ap (λ (k : ℕ). get_or (block_at image ((r.physical + (a - r.logical)) / 4096)) k 0) byte
by_test image r others others' a j false whole at low held rest = rest

pub byte_in_block : (image : Image) (ranges : List MapRange) (a j : ℕ) → AreInBlocks ranges → a % 4096 ≡ 0 → j < 4096
    → byte_of_place image (place ranges (a + j)) ≡ get_or (block_or_zeros image (place ranges a)) j 0
byte_in_block image [] a j all at low = sym (get_or-replicate 4096 j 0 0 low)
byte_in_block image (r ∷ ranges) a j all at low =
    let whole : IsInBlocks r = All-head IsInBlocks r ranges all in
    ap (λ t. byte_of_place image (if t then Some (r.physical + (a + j - r.logical)) else place ranges (a + j))) (holds_same r a j (holds r a) whole at low refl)
    ∙ by_test image r (place ranges a) (place ranges (a + j)) a j (holds r a) whole at low refl (byte_in_block image ranges a j (All-tail IsInBlocks r ranges all) at low)

pub not_placed : (image : Image) (o : Option ℕ) → None ≡ option_map (λ (p : ℕ). p / 4096) o → zeros ≡ block_or_zeros image o
not_placed image None is = refl
not_placed image (Some p) is = absurd (cc is)
