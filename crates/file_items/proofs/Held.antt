-- What of an object is held in the tree itself.
use Rattle.file_items.proofs.Imports.{◌≡◌, ◌<◌, ◌≤◌, ℕ, zero, suc, Bool, true, false, List, [], nat_le, ◌&&◌, Contains, Option, Some, None, refl, sym, ap, subst, ◌∙◌, true≢false, arith, unwrap_or, nat_tests, slice_get_within, get_or_from_slice_get, Kind, Directory, File, Symlink, Character, Block, Fifo, Socket, Subvolume, keys, get, Image, block_from, file_runs, runs_of, extended, ObjectKey, ObjectStat, same_key, items_of, stays_in_tree, is_tail, stat_at, kind_by, no_stat, IsOpened, IsAccepted, volume_items, Volume, ReiserItem, begins_in_tail, HoldsBy, HoldsDirectBytes, HoldsInline, IsObjectAt}
use Rattle.std.specs.Int.{div_ceil}
use Rattle.reiser_volume_files.specs.declared.map.RunFrom.{RunFrom}
use Rattle.reiser_volume_objects.specs.Items.{stat_of_object}
use Rattle.reiser_volume_objects.specs.Kinds.{kind_of_mode}

pub contains_at : (volume : Volume) (place : ℕ) (key : ObjectKey) → IsObjectAt volume place key → Contains (keys volume.named) key
contains_at volume place key at = (place, slice_get_within (keys volume.named) place key at, get_or_from_slice_get (keys volume.named) place key key at)

pub stat_is : (volume : Volume) (image : Image) (place : ℕ) (key : ObjectKey) (stat : ObjectStat) → IsOpened volume image → IsObjectAt volume place key → get same_key volume.named key ≡ Some stat → stat_at (volume_items image) key ≡ stat
stat_is volume image place key stat opened at has = ap (λ (o : Option ObjectStat). unwrap_or o no_stat) (sym (opened.stats key (contains_at volume place key at)) ∙ has)

-- the size of what stays in the tree
pub inline_low : (volume : Volume) (image : Image) (place : ℕ) (key : ObjectKey) (inline : Bool) (kind : Kind) → IsAccepted image → IsOpened volume image → IsObjectAt volume place key
    → kind ≡ kind_by (stat_at (volume_items image) key) → stays_in_tree inline (items_of key (volume_items image)) (stat_at (volume_items image) key).fields.size kind ≡ true → (stat_at (volume_items image) key).fields.size ≤ 3900
inline_low volume image place key inline kind accepted opened at kind_is is = by kind kind_is is
  where
    second : (a b : Bool) → (a && b) ≡ true → b ≡ true
    second true b h = h
    second false b h = absurd (true≢false (sym h))

    first : (a b : Bool) → (a && b) ≡ true → a ≡ true
    first true b h = refl
    first false b h = absurd (true≢false (sym h))

    low : (n : ℕ) → nat_le n 2048 ≡ true → n ≤ 3900
    low n h = grind (arith, nat_tests)

    some_kind : (o : Option Kind) → Symlink ≡ unwrap_or o File → o ≡ Some Symlink
    some_kind None h = absurd (apart h)
      where
        apart : Symlink ≡ File → ⊥
        apart h = true≢false (ap test h)
          where
            test : Kind → Bool
            test Symlink = true
            test File = false
            test Directory = false
            test Character = false
            test Block = false
            test Fifo = false
            test Socket = false
            test Subvolume = false
    some_kind (Some k) h = ap (λ (j : Kind). Some j) (sym h)

    of_link : Symlink ≡ kind_by (stat_at (volume_items image) key) → (stat_at (volume_items image) key).fields.size ≤ 3900
    of_link kind_is = go (stat_of_object (volume_items image) key) refl
      where
        go : (o : Option ObjectStat) → stat_of_object (volume_items image) key ≡ o → (stat_at (volume_items image) key).fields.size ≤ 3900
        go None there = let size : (stat_at (volume_items image) key).fields.size ≡ 0 = ap (λ (p : Option ObjectStat). (unwrap_or p no_stat).fields.size) there in omega (arith, size)
        go (Some stat) there =
            let same : stat_at (volume_items image) key ≡ stat = ap (λ (p : Option ObjectStat). unwrap_or p no_stat) there in
            let mode = some_kind (kind_of_mode stat.fields.mode) (kind_is ∙ ap kind_by same) in
            let low = accepted.names.keeps.targets key stat ((opened.are_keys.exact key).0 (contains_at volume place key at)) there mode in
            let size = ap (λ (s : ObjectStat). s.fields.size) same in
            omega (arith, low, size)

    by : (k : Kind) → k ≡ kind_by (stat_at (volume_items image) key) → stays_in_tree inline (items_of key (volume_items image)) (stat_at (volume_items image) key).fields.size k ≡ true → (stat_at (volume_items image) key).fields.size ≤ 3900
    by File k_is h =
        let size : ℕ = (stat_at (volume_items image) key).fields.size in
        let tail : Bool = is_tail (block_from (items_of key (volume_items image)) size 0) in
        low size (first (nat_le size 2048) tail (second inline (nat_le size 2048 && tail) h))
    by Symlink k_is h = of_link k_is
    by Directory k_is h = absurd (true≢false (sym h))
    by Character k_is h = absurd (true≢false (sym h))
    by Block k_is h = absurd (true≢false (sym h))
    by Fifo k_is h = absurd (true≢false (sym h))
    by Socket k_is h = absurd (true≢false (sym h))
    by Subvolume k_is h = absurd (true≢false (sym h))

-- a short file lies in direct items where its map begins so
pub first_tail : (items : List ReiserItem) (size : ℕ) → size ≤ 2048 → begins_in_tail (file_runs items size) ≡ (nat_le size 2048 && is_tail (block_from items size 0))
unfolding runs_of
first_tail items size short = by size short
  where
    le : (n : ℕ) → n ≤ 2048 → nat_le n 2048 ≡ true
    le n h = grind (arith, nat_tests)

    one : (n : ℕ) → suc n ≤ 2048 → div_ceil (suc n) 4096 ≡ 1
    one n h = omega arith

    single : (f : ℕ → Option RunFrom) → begins_in_tail (runs_of f 1) ≡ is_tail (f 0)
    single f = at (f 0)
      where
        at : (o : Option RunFrom) → begins_in_tail (extended [] 0 o) ≡ is_tail o
        at None = refl
        at (Some from) = refl

    none : (f : ℕ → Option RunFrom) → begins_in_tail (runs_of f 0) ≡ false
    none f = refl

    by : (n : ℕ) → n ≤ 2048 → begins_in_tail (file_runs items n) ≡ (nat_le n 2048 && is_tail (block_from items n 0))
    by zero h = none (block_from items 0)
    by (suc n) h =
        ap (λ (k : ℕ). begins_in_tail (runs_of (block_from items (suc n)) k)) (one n h) ∙ (single (block_from items (suc n)) ∙ sym (ap (λ (b : Bool). b && is_tail (block_from items (suc n) 0)) (le (suc n) h)))

pub not_short : (n : ℕ) (b : Bool) → 2048 < n → false ≡ (nat_le n 2048 && b)
not_short n b more = sym (ap (λ (c : Bool). c && b) (gt n more))
  where
    gt : (n : ℕ) → 2048 < n → nat_le n 2048 ≡ false
    gt n h = grind (arith, nat_tests)

-- a file where short ones stay in the tree
pub file_inline : (inline : Bool) (items : List ReiserItem) (size : ℕ) (kind : Kind) (test : Bool) → kind ≡ File → inline ≡ true → test ≡ (nat_le size 2048 && is_tail (block_from items size 0)) → test ≡ stays_in_tree inline items size kind
file_inline inline items size kind test kind_is inline_is is =
    is ∙ sym (ap (λ (k : Kind). stays_in_tree inline items size k) kind_is ∙ ap (λ (b : Bool). b && (nat_le size 2048 && is_tail (block_from items size 0))) inline_is)

-- what an inline object holds, and what another one
pub holds_inline : (inline : Bool) (items : List ReiserItem) (size : ℕ) (kind : Kind) (n : ℕ) (block : List ℕ) → stays_in_tree inline items size kind ≡ true → HoldsDirectBytes items size n block → HoldsInline inline items size kind (Some n) block
holds_inline inline items size kind n block is has = subst (λ (b : Bool). HoldsBy b items size (Some n) block) (sym is) has

pub holds_nothing : (inline : Bool) (items : List ReiserItem) (size : ℕ) (kind : Kind) (block : List ℕ) → stays_in_tree inline items size kind ≡ false → HoldsInline inline items size kind None block
holds_nothing inline items size kind block is = subst (λ (b : Bool). HoldsBy b items size None block) (sym is) refl
