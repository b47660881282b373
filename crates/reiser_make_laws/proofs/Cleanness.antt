-- Superblock and journal of a sample are those of a clean volume.
use Rattle.reiser_make_laws.proofs.Imports.{◌≡◌, ℕ, zero, suc, ◌+◌, ◌^◌, ◌≤◌, ◌<◌, Bool, true, false, cond, List, [], ◌∷◌, length, map, drop, filter, refl, sym, ◌∙◌, ap, subst, arith, nat_le, range_with_len, SUPER_BLOCK, little_number-reads_back, field, zeros, Image, block_at, superblock_fields, journal_device, block_size, mount_state, checker_state, needed, root_level, root_from, nodes_above, total, volume_blocks, system_block, leaves, Shape, shape, leaves_some, node_below, system_below, total_some, root_low, nodes_some, FitsSample, made}
use Rattle.reiser_volume.specs.vol_block.Format.{has_reiser_magic}
use Rattle.reiser_volume.specs.reiser_super.declared.superblock.Super.{Super}
use Rattle.reiser_volume.specs.reiser_super.Rules.{IsCleanSuper, IsInBounds, has_old_magic}
use Rattle.reiser_volume.specs.reiser_super.Journal.{IsClean, pending_transactions, all_transactions, names_place, is_descriptor, log_block, transaction, last_flushed, next_place, waiting_at}
use Rattle.reiser_make.specs.Superblock.{fields_bytes, superblock_bytes, super_fields, root_block, tree_height}
use Rattle.reiser_make.specs.declared.superblock.SuperFields.{SuperFields}
use Rattle.reiser_make_laws.proofs.Blocks.{system_is, length-laid_over}

-- the fields that vary
blocks_field : (f : SuperFields) → f.blocks < 256 ^ 4 → field 4 (fields_bytes f) 0 ≡ f.blocks
unfolding fields_bytes
blocks_field f small = little_number-reads_back 4 f.blocks (drop 4 (fields_bytes f)) small

root_field : (f : SuperFields) → f.root < 256 ^ 4 → field 4 (fields_bytes f) 8 ≡ f.root
unfolding fields_bytes
root_field f small = little_number-reads_back 4 f.root (drop 12 (fields_bytes f)) small

height_field : (f : SuperFields) → f.height < 256 ^ 2 → field 2 (fields_bytes f) 68 ≡ f.height
unfolding fields_bytes
height_field f small = little_number-reads_back 2 f.height (drop 70 (fields_bytes f)) small

-- and those that do not
pub record HasFixed (bytes : List ℕ) : Type 0 where
  pub first : field 4 bytes 12 ≡ 18
  pub size : field 4 bytes 20 ≡ 8192
  pub device : journal_device bytes ≡ 0
  pub block : block_size bytes ≡ 4096
  pub mount : mount_state bytes ≡ 1
  pub checker : checker_state bytes ≡ 0
  pub magic : has_reiser_magic bytes ≡ true
  pub new : has_old_magic bytes ≡ false

fixed : (f : SuperFields) → HasFixed (fields_bytes f)
unfolding fields_bytes
fixed f = record { first = refl; size = refl; device = refl; block = refl; mount = refl; checker = refl; magic = refl; new = refl }

either_low : (b : Bool) (x y most : ℕ) → x ≤ most → y ≤ most → cond b x y ≤ most
either_low true x y most low lower = low
either_low false x y most low lower = lower

root_from_high : (levels level n : ℕ) → root_from levels level n ≤ level + levels
root_from_high zero level n = omega arith
root_from_high (suc levels) level n = either_low (nat_le n 1) level (root_from levels (level + 1) (nodes_above n)) (level + suc levels) (omega arith) (omega (arith, root_from_high levels (level + 1) (nodes_above n)))

pub root_high : (leaves : ℕ) → root_level leaves ≤ 6
unfolding root_level
root_high leaves = omega (arith, root_from_high 5 1 leaves)

-- what of a superblock a clean volume asks for
pub record HasFields (s : Shape) (blocks : ℕ) (bytes : List ℕ) : Type 0 where
  pub fixed_ones : HasFixed bytes
  pub blocks_is : (superblock_fields bytes).blocks ≡ blocks
  pub root_is : (superblock_fields bytes).root ≡ root_block s
  pub height_is : (superblock_fields bytes).height ≡ tree_height s

root_inside : (s : Shape) → root_block s < needed s
root_inside s =
    let count : ℕ = length (leaves s) in
    node_below s (root_level count) 0 (root_low count) (omega arith) (omega (arith, nodes_some count (root_level count) (leaves_some s)))

pub has_fields : (s : Shape) (blocks : ℕ) → needed s ≤ blocks → blocks ≤ 2 ^ 29 → HasFields s blocks (superblock_bytes s blocks)
has_fields s blocks enough few =
    let f : SuperFields = super_fields s blocks in
    record {
      fixed_ones = fixed f;
      blocks_is = blocks_field f (omega (arith, few));
      root_is = root_field f (omega (arith, few, enough, root_inside s));
      height_is = height_field f (omega (arith, root_high (length (leaves s))));
    }

clean_super : (s : Shape) (blocks device : ℕ) (bytes : List ℕ) → needed s ≤ blocks → blocks ≤ 2 ^ 29 → blocks ≤ device → HasFields s blocks bytes → IsCleanSuper bytes device
clean_super s blocks device bytes enough few inside has =
    let long : 8210 < needed s = system_below (total s) 8210 (total_some s) (omega arith) in
    let bounds : IsInBounds (superblock_fields bytes) = record {
      height_low = omega (arith, has.height_is, root_low (length (leaves s)));
      height_high = omega (arith, has.height_is, root_high (length (leaves s)));
      root = omega (arith, has.root_is, has.blocks_is, root_inside s, enough);
      journal_first = omega (arith, has.fixed_ones.first);
      journal_size = omega (arith, has.fixed_ones.size);
      journal_end = omega (arith, has.fixed_ones.first, has.fixed_ones.size, has.blocks_is, long, enough);
      blocks = omega (arith, has.blocks_is, long, enough);
    } in
    record {
      there = omega (arith, long, enough, inside);
      magic = has.fixed_ones.magic;
      new_magic = has.fixed_ones.new;
      blocks_fit = has.fixed_ones.block;
      journal_here = has.fixed_ones.device;
      undamaged = has.fixed_ones.checker;
      count = omega (arith, has.blocks_is, few);
      unmounted = has.fixed_ones.mount;
      bounds = bounds;
      fits = omega (arith, has.blocks_is, inside);
    }

-- a row of which no element passes a test
none_pass : {X : Type 0} (p : X → Bool) (f : ℕ → X) (a n : ℕ) → ((k : ℕ) → a ≤ k → k < a + n → p (f k) ≡ false) → filter p (map f (range_with_len a n)) ≡ []
none_pass p f a zero each = refl
none_pass p f a (suc n) each =
    ap (λ (b : Bool). cond b (f a ∷ filter p (map f (range_with_len (a + 1) n))) (filter p (map f (range_with_len (a + 1) n)))) (each a (omega arith) (omega arith))
    ∙ none_pass p f (a + 1) n (λ k low high. each k (omega (arith, low)) (omega (arith, high)))

not_named : (b : Bool) (x y : List ℕ) → b ≡ false → cond b x y ≡ y
not_named true x y is = cc
not_named false x y is = refl

zeros_begin_none : is_descriptor zeros ≡ false
unfolding is_descriptor
zeros_begin_none = refl

zeros_name_none : (size : ℕ) → names_place size zeros ≡ false
unfolding names_place last_flushed
zeros_name_none size = refl

-- no transaction waits in a journal of zeros
no_pending : (s : Super) (image : Image) → ((place : ℕ) → place ≤ s.journal_size → block_at image (s.journal_first + place) ≡ zeros) → pending_transactions s image ≡ []
unfolding pending_transactions all_transactions
no_pending s image empty =
    let none : names_place s.journal_size (block_at image (s.journal_first + s.journal_size)) ≡ false =
    ap (names_place s.journal_size) (empty s.journal_size (omega arith)) ∙ zeros_name_none s.journal_size in
    let no_descriptor : filter is_descriptor (map (log_block s image) (range_with_len 0 s.journal_size)) ≡ [] =
    none_pass is_descriptor (log_block s image) 0 s.journal_size
    (λ k low high. ap is_descriptor (empty k (omega (arith, high))) ∙ zeros_begin_none) in
    let header : List ℕ = block_at image (s.journal_first + s.journal_size) in
    not_named _ (waiting_at s image (last_flushed header) (next_place header)) (all_transactions s image) none ∙ ap (map transaction) no_descriptor

empty_block : (s : Shape) (blocks b : ℕ) → 18 ≤ b → system_block s blocks b ≡ zeros
empty_block s blocks b low = grind (arith, low)

-- the superblock behind a make
pub super_made : (number : ℕ) (old : Bool) (blocks : ℕ) (image : Image) → FitsSample number old blocks image
    → HasFields (shape number old) blocks (block_at (made (shape number old) blocks image) SUPER_BLOCK)
super_made number old blocks image fits =
    let s : Shape = shape number old in
    let long : 8210 < needed s = system_below (total s) 8210 (total_some s) (omega arith) in
    let block : block_at (made s blocks image) SUPER_BLOCK ≡ superblock_bytes s blocks = system_is s blocks 16 image (omega arith) (omega (arith, long, fits.needed_low, fits.inside)) in
    subst (λ (bytes : List ℕ). HasFields s blocks bytes) (sym block) (has_fields s blocks fits.needed_low fits.blocks_low)

pub clean : (number : ℕ) (old : Bool) (blocks : ℕ) (image : Image) → FitsSample number old blocks image → IsClean (made (shape number old) blocks image)
clean number old blocks image fits =
    let s : Shape = shape number old in
    let long : 8210 < needed s = system_below (total s) 8210 (total_some s) (omega arith) in
    let has : HasFields s blocks (block_at (made s blocks image) SUPER_BLOCK) = super_made number old blocks image fits in
    let device : length (made s blocks image) ≡ length image = length-laid_over (volume_blocks s blocks) image in
    record {
      superblock = clean_super s blocks (length (made s blocks image)) _ fits.needed_low fits.blocks_low (omega (arith, fits.inside, device)) has;
      journal = no_pending (superblock_fields (block_at (made s blocks image) SUPER_BLOCK)) (made s blocks image)
          (λ place low.
          let b : ℕ = (superblock_fields (block_at (made s blocks image) SUPER_BLOCK)).journal_first + place in
          system_is s blocks b image (omega (arith, low, has.fixed_ones.first, has.fixed_ones.size)) (omega (arith, low, has.fixed_ones.first, has.fixed_ones.size, long, fits.needed_low, fits.inside))
          ∙ empty_block s blocks b (omega (arith, has.fixed_ones.first)));
    }
