-- A block of the saved image is a block of an extent.
use Rattle.volume_state.proofs.Imports.{◌≡◌, inl, ℕ, suc, ◌+◌, ◌-◌, ◌*◌, ◌/◌, ◌%◌, ◌<◌, ◌≤◌, eqb, nat_lt, nat_le, Bool, true, false, List, [], ◌∷◌, ◌++◌, Contains, Option, Some, None, refl, subst, arith, if◌then◌else◌, ◌&&◌, ◌||◌, ◌∙◌, ap, option_map, and_parts, nat_tests, covered_after, covers, end_after, extents_refusals, is_aligned, is_hole, range_is_aligned, refusals_at, aligned_of, form_of_sound, ContentValue, FileExtentValue, Inline, Prealloc, Regular, file_extent_of, DiskRange, block_by_extent, content_block, file_block, TreeItem, place, MapRange, LieIn}

pub some_is : {X : Type 0} (x y : X) → (Some x ≡ Some y) → x ≡ y
some_is x y h = cc h

pub no_some : {X : Type 0} (x : X) → (None ≡ Some x) → ⊥
no_some x h = cc h

nothing_left : {X : Type 0} (xs ys : List X) → xs ++ ys ≡ [] → (xs ≡ []) × (ys ≡ [])
nothing_left [] ys h = (refl, h)
nothing_left (x ∷ xs) ys h = absurd (cc h)

-- the part of the device in which one of the extents has block b of the file
pub record HasBlock (ranges : List MapRange) (extents : List TreeItem) (b at : ℕ) : Type 0 where
  pub item : TreeItem
  pub among : Contains extents item
  pub extent : FileExtentValue
  pub read : file_extent_of item.body ≡ Some extent
  pub range : DiskRange
  pub content : extent.content ≡ Regular range
  pub some : is_hole range ≡ false
  pub lies : LieIn ranges range.disk_bytenr range.disk_num_bytes at

later : (ranges : List MapRange) (i : TreeItem) (extents : List TreeItem) (b at : ℕ) → HasBlock ranges extents b at → HasBlock ranges (i ∷ extents) b at
later ranges i extents b at has = record {
  item = has.item;
  among = (suc has.among.0, omega (arith, has.among.1), has.among.2);
  extent = has.extent;
  read = has.read;
  range = has.range;
  content = has.content;
  some = has.some;
  lies = has.lies;
}

-- ---- one extent
whole_blocks : (offset : ℕ) (r : DiskRange) → range_is_aligned offset r ≡ true → offset % 4096 ≡ 0
whole_blocks offset r aligned = let test : eqb (offset % 4096) 0 ≡ true = (and_parts (eqb (offset % 4096) 0) _ aligned).0 in grind (arith, nat_tests, test)

-- an extent that is aligned stays in its disk extent
in_disk_extent : (offset : ℕ) (r : DiskRange) → range_is_aligned offset r ≡ true → is_hole r ≡ false → r.offset + r.num_bytes ≤ r.disk_num_bytes
in_disk_extent offset r aligned some = stays_inside (is_hole r) some (and_parts (eqb (r.num_bytes % 4096) 0) _ (and_parts (eqb (offset % 4096) 0) _ aligned).1).1
  where
    stays_inside : (hole : Bool) → hole ≡ false → (hole || (eqb (r.disk_bytenr % 4096) 0 && (eqb (r.offset % 4096) 0 && nat_le (r.offset + r.num_bytes) r.disk_num_bytes))) ≡ true
        → r.offset + r.num_bytes ≤ r.disk_num_bytes
    stays_inside true is all = absurd (cc is)
    stays_inside false is all =
        let last : nat_le (r.offset + r.num_bytes) r.disk_num_bytes ≡ true = (and_parts (eqb (r.offset % 4096) 0) _ (and_parts (eqb (r.disk_bytenr % 4096) 0) _ all).1).1 in
        grind (arith, nat_tests, last)

covers_bounds : (offset b : ℕ) (r : DiskRange) → covers offset (Regular r) (4096 * b) ≡ true → (offset ≤ 4096 * b) × (4096 * b < offset + r.num_bytes)
covers_bounds offset b r over =
    let parts = and_parts (nat_le offset (4096 * b)) (nat_lt (4096 * b) (offset + r.num_bytes)) over in
    (grind (arith, nat_tests, parts.0), grind (arith, nat_tests, parts.1))

-- the place of a block of an extent
placed : (ranges : List MapRange) (offset b at : ℕ) (r : DiskRange) (o : Option ℕ) → offset % 4096 ≡ 0 → r.offset + r.num_bytes ≤ r.disk_num_bytes → (offset ≤ 4096 * b) × (4096 * b < offset + r.num_bytes)
    → place ranges (r.disk_bytenr + r.offset + 4096 * (b - offset / 4096)) ≡ o → option_map (λ p. p / 4096) o ≡ Some at → LieIn ranges r.disk_bytenr r.disk_num_bytes at
placed ranges offset b at r None straight inside over is there = absurd (no_some at there)
placed ranges offset b at r (Some p) straight inside over is there =
    let same : r.disk_bytenr + (r.offset + 4096 * (b - offset / 4096)) ≡ r.disk_bytenr + r.offset + 4096 * (b - offset / 4096) = omega arith in
    record {
      k = r.offset + 4096 * (b - offset / 4096);
      within = omega (arith, straight, inside, over.0, over.1);
      at = p;
      place_is = inl (ap (λ (a : ℕ). place ranges a) same ∙ is);
      block = some_is (p / 4096) at there;
    }

unless_hole : (hole : Bool) (o : Option ℕ) (at : ℕ) → (if hole then None else o) ≡ Some at → (hole ≡ false) × (o ≡ Some at)
unless_hole true o at is = absurd (no_some at is)
unless_hole false o at is = (refl, is)

in_content : (ranges : List MapRange) (i : TreeItem) (extents : List TreeItem) (x : FileExtentValue) (b at : ℕ) (c : ContentValue) → x.content ≡ c → file_extent_of i.body ≡ Some x
    → ((r : DiskRange) → c ≡ Regular r → range_is_aligned i.key.offset r ≡ true)
    → covers i.key.offset c (4096 * b) ≡ true → content_block ranges c (b - i.key.offset / 4096) ≡ Some at → HasBlock ranges (i ∷ extents) b at
in_content ranges i extents x b at (Inline bytes) content read aligned over is = absurd (no_some at is)
in_content ranges i extents x b at (Prealloc r) content read aligned over is = absurd (no_some at is)
in_content ranges i extents x b at (Regular r) content read aligned over is =
    let some = unless_hole (is_hole r) (option_map (λ p. p / 4096) (place ranges (r.disk_bytenr + r.offset + 4096 * (b - i.key.offset / 4096)))) at is in
    record {
      item = i;
      among = (0, omega arith, refl);
      extent = x;
      read = read;
      range = r;
      content = content;
      some = some.0;
      lies =
          placed ranges i.key.offset b at r (place ranges (r.disk_bytenr + r.offset + 4096 * (b - i.key.offset / 4096))) (whole_blocks i.key.offset r (aligned r refl))
          (in_disk_extent i.key.offset r (aligned r refl) some.0)
          (covers_bounds i.key.offset b r over) refl some.1;
    }

-- what an extent with which nothing is wrong has
aligned_range : (ranges : List MapRange) (e c : ℕ) (i : TreeItem) (x : FileExtentValue) → refusals_at ranges e c i (Some x) ≡ [] → (r : DiskRange) → x.content ≡ Regular r → range_is_aligned i.key.offset r ≡ true
aligned_range ranges e c i x sound r is =
    subst (λ (k : ContentValue). is_aligned i.key.offset k ≡ true) is (aligned_of e c i.key.offset x.content (form_of_sound ranges e c i.key.offset i.leaf x sound))

by_covers : (ranges : List MapRange) (i : TreeItem) (extents : List TreeItem) (x : FileExtentValue) (b at : ℕ) (t : Bool) → covers i.key.offset x.content (4096 * b) ≡ t → file_extent_of i.body ≡ Some x
    → ((r : DiskRange) → x.content ≡ Regular r → range_is_aligned i.key.offset r ≡ true)
    → (file_block ranges extents b ≡ Some at → HasBlock ranges extents b at)
    → (if t then content_block ranges x.content (b - i.key.offset / 4096) else file_block ranges extents b) ≡ Some at → HasBlock ranges (i ∷ extents) b at
by_covers ranges i extents x b at true over read aligned rest is = in_content ranges i extents x b at x.content refl read aligned over is
by_covers ranges i extents x b at false over read aligned rest is = later ranges i extents b at (rest is)

-- ---- all of them
by_extent : (ranges : List MapRange) (i : TreeItem) (extents : List TreeItem) (e c b at : ℕ) (o : Option FileExtentValue) → file_extent_of i.body ≡ o → refusals_at ranges e c i o ≡ []
    → (file_block ranges extents b ≡ Some at → HasBlock ranges extents b at) → block_by_extent ranges i o b (file_block ranges extents b) ≡ Some at → HasBlock ranges (i ∷ extents) b at
by_extent ranges i extents e c b at None read sound rest there = later ranges i extents b at (rest there)
by_extent ranges i extents e c b at (Some x) read sound rest there =
    by_covers ranges i extents x b at (covers i.key.offset x.content (4096 * b)) refl read (aligned_range ranges e c i x sound) rest there

pub has_block : (ranges : List MapRange) (extents : List TreeItem) (e c b at : ℕ) → extents_refusals ranges e c extents ≡ [] → file_block ranges extents b ≡ Some at → HasBlock ranges extents b at
has_block ranges [] e c b at sound is = absurd (no_some at is)
has_block ranges (i ∷ extents) e c b at sound is =
    let end : ℕ = end_after e i.key.offset (file_extent_of i.body) in
    let covered : ℕ = covered_after c (file_extent_of i.body) in
    let parts = nothing_left (refusals_at ranges e c i (file_extent_of i.body)) (extents_refusals ranges end covered extents) sound in
    by_extent ranges i extents e c b at (file_extent_of i.body) refl parts.0 (has_block ranges extents end covered b at parts.1) is
