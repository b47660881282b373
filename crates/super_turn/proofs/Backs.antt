-- What is put back, and what that keeps.
use Rattle.super_turn.proofs.Imports.{◌≡◌, ◌≢◌, ◌⊎◌, inl, inr, ⊎_elim, ℕ, ◌+◌, ◌^◌, ◌<◌, ◌≤◌, Bool, true, false, true≢false, cond, not, List, [], length, set, take, drop, nat_eq, refl, sym, ◌∙◌, ap, subst, arith, get_or-set_same, get_or-set_other, ext_get_or, get_or_past, length-set, set-get_or, codes, nat_le, nat_lt, ◌&&◌, ◌||◌, Image, block_at, format, has_bytes_at, has_mark, is_half, marked, marked_place, names_copy, IsPuttingBack, copy_place, is_half_turned, put_back, super_before, SUPER_BLOCK}
use Rattle.std.proofs.lemmas.Bool.{and_parts, cases_eq, cases_lt, ne_eqb}
use Rattle.std.proofs.lemmas.Bool.Decides.{Decides-ltb}
use Rattle.std.proofs.lemmas.Slice.Eq.{bytes_eq-Decides}
use Rattle.std.specs.Str.{bytes_eq}
use Rattle.outside.specs.Format.{format_in}
use Rattle.outside.specs.vol_block.declared.format.Format.{Format}
use Rattle.outside.specs.vol_block.declared.format.Format.TheVariants.{Btrfs, Neither, Reiser}
use Rattle.super_turn.specs.Laws.{HalfTurnedIsPutBack, PutBackKeeps}
use Rattle.super_turn.proofs.Fronts.{same_field, same_magic, same_within}
use Rattle.super_turn.proofs.Halves.{marked_behind, marked_front, marked_has, marked_names, sector_front}

-- the format of a superblock lies in its first 128 bytes
pub format_front : (xs ys : List ℕ) → take 128 xs ≡ take 128 ys → format xs ≡ format ys
format_front xs ys same =
    let btrfs : has_bytes_at xs 64 (codes "_BHRfS_M") ≡ has_bytes_at ys 64 (codes "_BHRfS_M") = same_magic 128 xs ys same 64 (codes "_BHRfS_M") (omega arith) in
    let old : has_bytes_at xs 52 (codes "ReIsErFs") ≡ has_bytes_at ys 52 (codes "ReIsErFs") = same_magic 128 xs ys same 52 (codes "ReIsErFs") (omega arith) in
    let two : has_bytes_at xs 52 (codes "ReIsEr2Fs") ≡ has_bytes_at ys 52 (codes "ReIsEr2Fs") = same_magic 128 xs ys same 52 (codes "ReIsEr2Fs") (omega arith) in
    let three : has_bytes_at xs 52 (codes "ReIsEr3Fs") ≡ has_bytes_at ys 52 (codes "ReIsEr3Fs") = same_magic 128 xs ys same 52 (codes "ReIsEr3Fs") (omega arith) in
    λ i. cond (btrfs i) Btrfs (cond (old i || (two i || three i)) Reiser Neither)

format_kept : (image other : Image) → length other ≡ length image → format (block_at other SUPER_BLOCK) ≡ format (block_at image SUPER_BLOCK) → format_in other ≡ format_in image
format_kept image other size same =
    ap (λ (n : ℕ). cond (nat_le n 16) Neither (format (block_at other SUPER_BLOCK))) size ∙ ap (λ (f : Format). cond (nat_le (length image) 16) Neither f) same

both : (a b : Bool) → a ≡ true → b ≡ true → (a && b) ≡ true
both a b one two = rw (one, two) refl

-- a test of a number that is not 16
not_16 : (n : ℕ) → not (nat_eq n 16) ≡ true → n ≢ 16
not_16 n is same = true≢false (sym (ap (λ (m : ℕ). not (nat_eq m 16)) (sym same) ∙ is))

is_not_16 : (n : ℕ) → n ≢ 16 → not (nat_eq n 16) ≡ true
is_not_16 n other = ap not (ne_eqb n 16 other)

-- what a mark names: another block of the disk
module _ (bytes : List ℕ) (blocks : ℕ) (named : names_copy bytes blocks ≡ true) where
  place_parts : (nat_lt (marked_place bytes) blocks ≡ true) × (not (nat_eq (marked_place bytes) 16) ≡ true)
  place_parts =
      let marks = and_parts (not (has_bytes_at bytes 64 (codes "_BHRfS_M"))) (has_mark bytes && (nat_lt (marked_place bytes) blocks && not (nat_eq (marked_place bytes) 16))) named in
      let places = and_parts (has_mark bytes) (nat_lt (marked_place bytes) blocks && not (nat_eq (marked_place bytes) 16)) marks.1 in
      and_parts (nat_lt (marked_place bytes) blocks) (not (nat_eq (marked_place bytes) 16)) places.1

  pub named_inside : marked_place bytes < blocks
  named_inside = (Decides-ltb (marked_place bytes) blocks).0 place_parts.0

  pub named_elsewhere : marked_place bytes ≢ 16
  named_elsewhere = not_16 (marked_place bytes) place_parts.1

module _ (image : Image) where
  abbrev bytes : List ℕ
  bytes = block_at image SUPER_BLOCK

  abbrev copy : List ℕ
  copy = block_at image (copy_place image)

  -- without block 16 there is nothing to be put back
  pub none_short : length image ≤ 16 → is_half_turned image ≡ false
  none_short short = ap (λ (zs : List ℕ). names_copy zs (length image) && is_half (block_at image (marked_place zs)) zs) (get_or_past image 16 [] short)

  -- nor is there on a Btrfs volume
  pub none_btrfs : has_bytes_at bytes 64 (codes "_BHRfS_M") ≡ true → is_half_turned image ≡ false
  none_btrfs btrfs =
      ap (λ (t : Bool). (not t && (has_mark bytes && (nat_lt (marked_place bytes) (length image) && not (nat_eq (marked_place bytes) 16)))) && is_half copy bytes) btrfs

  pub put_some : is_half_turned image ≡ true → put_back image ≡ set image 16 copy
  put_some half = ap (λ (t : Bool). cond t (set image 16 copy) image) half

  pub put_none : is_half_turned image ≡ false → put_back image ≡ image
  put_none half = ap (λ (t : Bool). cond t (set image 16 copy) image) half

  -- ---- where it is half turned
  module _ (half : is_half_turned image ≡ true) where
    parts : (names_copy bytes (length image) ≡ true) × (is_half copy bytes ≡ true)
    parts = and_parts (names_copy bytes (length image)) (is_half copy bytes) half

    same_parts : (bytes_eq (take 128 bytes) (take 128 copy) ≡ true) × (bytes_eq (take 360 (drop 152 bytes)) (take 360 (drop 152 copy)) ≡ true)
    same_parts = and_parts (bytes_eq (take 128 bytes) (take 128 copy)) (bytes_eq (take 360 (drop 152 bytes)) (take 360 (drop 152 copy))) parts.1

    pub half_front : take 128 bytes ≡ take 128 copy
    half_front = (bytes_eq-Decides (take 128 bytes) (take 128 copy)).0 same_parts.0

    pub half_long : 16 < length image
    half_long = ⊎_elim (λ long. long) (λ short. absurd (true≢false (sym half ∙ none_short short))) (cases_lt 16 (length image))

    pub half_elsewhere : copy_place image ≢ 16
    half_elsewhere = named_elsewhere bytes (length image) parts.0

    pub half_inside : copy_place image < length image
    half_inside = named_inside bytes (length image) parts.0

  -- ---- what stays
  size_kept : (t : Bool) → length (cond t (set image 16 copy) image) ≡ length image
  size_kept true = length-set image 16 copy
  size_kept false = refl

  others_kept : (t : Bool) (b : ℕ) → b ≢ 16 → block_at (cond t (set image 16 copy) image) b ≡ block_at image b
  others_kept true b other = get_or-set_other image 16 b copy [] other
  others_kept false b other = refl

  -- block 16 is what it is to be
  pub super_put : block_at (put_back image) 16 ≡ super_before image
  super_put = by (is_half_turned image) refl
    where
      by : (t : Bool) → is_half_turned image ≡ t → block_at (cond t (set image 16 copy) image) 16 ≡ cond t copy bytes
      by true half = get_or-set_same image 16 copy [] (half_long half)
      by false half = refl

  pub super_front : take 128 (super_before image) ≡ take 128 bytes
  super_front = by (is_half_turned image) refl
    where
      by : (t : Bool) → is_half_turned image ≡ t → take 128 (cond t copy bytes) ≡ take 128 bytes
      by true half = sym (half_front half)
      by false half = refl

  pub put_size : length (put_back image) ≡ length image
  put_size = size_kept (is_half_turned image)

  pub put_others : (b : ℕ) → b ≢ 16 → block_at (put_back image) b ≡ block_at image b
  put_others = others_kept (is_half_turned image)

  pub put_front : take 128 (block_at (put_back image) 16) ≡ take 128 bytes
  put_front = ap (take 128) super_put ∙ super_front

-- two disks that have the same in block 16 and elsewhere
pub same_disks : (one two : Image) → length one ≡ length two → block_at one SUPER_BLOCK ≡ block_at two SUPER_BLOCK → ((b : ℕ) → b ≢ 16 → block_at one b ≡ block_at two b) → one ≡ two
same_disks one two size here others =
    ext_get_or [] one two size (λ b below. ⊎_elim (λ same. subst (λ (n : ℕ). block_at one n ≡ block_at two n) (sym same) here) (λ other. others b other) (cases_eq b 16))

-- ---- a crash while it is put back
module _ (image other : Image) (size : length other ≡ length image) (others : (b : ℕ) → b ≢ 16 → block_at other b ≡ block_at image b) where
  back_already : block_at other SUPER_BLOCK ≡ super_before image → other ≡ put_back image
  back_already is =
      same_disks other (put_back image) (size ∙ sym (put_size image)) (is ∙ sym (super_put image)) (λ b elsewhere. others b elsewhere ∙ sym (put_others image b elsewhere))

  module _ (half : is_half_turned image ≡ true) (first : take 512 (block_at other SUPER_BLOCK) ≡ take 512 (block_at image SUPER_BLOCK)) where
    place_same : copy_place other ≡ copy_place image
    place_same = same_field 512 (block_at other SUPER_BLOCK) (block_at image SUPER_BLOCK) first 8 144 (omega arith)

    copy_same : block_at other (copy_place other) ≡ block_at image (copy_place image)
    copy_same = ap (block_at other) place_same ∙ others (copy_place image) (half_elsewhere image half)

    names_same : names_copy (block_at other SUPER_BLOCK) (length other) ≡ names_copy (block_at image SUPER_BLOCK) (length image)
    names_same =
        let magic : has_bytes_at (block_at other SUPER_BLOCK) 64 (codes "_BHRfS_M") ≡ has_bytes_at (block_at image SUPER_BLOCK) 64 (codes "_BHRfS_M") =
        same_magic 512 (block_at other SUPER_BLOCK) (block_at image SUPER_BLOCK) first 64 (codes "_BHRfS_M") (omega arith) in
        let marks : has_mark (block_at other SUPER_BLOCK) ≡ has_mark (block_at image SUPER_BLOCK) = same_magic 512 (block_at other SUPER_BLOCK) (block_at image SUPER_BLOCK) first 128 (codes "reiserconv turns") (omega arith) in
        λ i. not (magic i) && (marks i && (nat_lt (place_same i) (size i) && not (nat_eq (place_same i) 16)))

    half_same : is_half (block_at other (copy_place other)) (block_at other SUPER_BLOCK) ≡ is_half (block_at image (copy_place image)) (block_at image SUPER_BLOCK)
    half_same =
        let front : take 128 (block_at other SUPER_BLOCK) ≡ take 128 (block_at image SUPER_BLOCK) = sector_front 128 (block_at other SUPER_BLOCK) (block_at image SUPER_BLOCK) (omega arith) first in
        let behind : take 360 (drop 152 (block_at other SUPER_BLOCK)) ≡ take 360 (drop 152 (block_at image SUPER_BLOCK)) = same_within 512 (block_at other SUPER_BLOCK) (block_at image SUPER_BLOCK) first 152 360 (omega arith) in
        λ i. bytes_eq (front i) (take 128 (copy_same i)) && bytes_eq (behind i) (take 360 (drop 152 (copy_same i)))

    half_again : is_half_turned other ≡ true
    half_again = ap (λ (t : Bool). t && is_half (block_at other (copy_place other)) (block_at other SUPER_BLOCK)) names_same ∙ ap (λ (t : Bool). names_copy (block_at image SUPER_BLOCK) (length image) && t) half_same ∙ half

    back_again : put_back other ≡ put_back image
    back_again =
        same_disks (put_back other) (put_back image) (put_size other ∙ size ∙ sym (put_size image))
        (super_put other ∙ ap (λ (t : Bool). cond t (block_at other (copy_place other)) (block_at other SUPER_BLOCK)) half_again ∙ copy_same ∙ sym (super_put image ∙ ap (λ (t : Bool). cond t (block_at image (copy_place image)) (block_at image SUPER_BLOCK)) half))
        (λ b elsewhere. put_others other b elsewhere ∙ others b elsewhere ∙ sym (put_others image b elsewhere))

pub again : (image other : Image) → IsPuttingBack image other → is_half_turned (put_back image) ≡ false → put_back other ≡ put_back image
again image other is none =
    ⊎_elim (λ back. ap put_back (back_already image other is.size is.others back) ∙ put_none (put_back image) none)
    (λ first. back_again image other is.size is.others first.0 first.1) is.superblock

pub keeps : PutBackKeeps
keeps = record {
  size = put_size;
  others = put_others;
  front = put_front;
  format = λ image. format_kept image (put_back image) (put_size image) (format_front (block_at (put_back image) 16) (block_at image SUPER_BLOCK) (put_front image));
  again = again;
}

-- ---- a superblock that is half turned
pub half_turned : HalfTurnedIsPutBack
half_turned old place image h =
    let bytes : List ℕ = block_at image SUPER_BLOCK in
    let turned : List ℕ = marked old place in
    let magic : has_bytes_at bytes 64 (codes "_BHRfS_M") ≡ false =
    same_magic 128 bytes old (sector_front 128 bytes turned (omega arith) h.half ∙ marked_front old place h.whole) 64 (codes "_BHRfS_M") (omega arith) ∙ h.other_magic in
    let marks : has_mark bytes ≡ true = same_magic 512 bytes turned h.half 128 (codes "reiserconv turns") (omega arith) ∙ marked_has old place h.whole in
    let names : marked_place bytes ≡ place = same_field 512 bytes turned h.half 8 144 (omega arith) ∙ marked_names old place h.whole h.small in
    let low : nat_lt (marked_place bytes) (length image) ≡ true = (Decides-ltb (marked_place bytes) (length image)).1 (subst (λ (n : ℕ). n < length image) (sym names) h.inside) in
    let elsewhere : not (nat_eq (marked_place bytes) 16) ≡ true = is_not_16 (marked_place bytes) (λ is. h.elsewhere (sym names ∙ is)) in
    let copy : block_at image (marked_place bytes) ≡ old = ap (block_at image) names ∙ h.copy in
    let front : take 128 bytes ≡ take 128 (block_at image (marked_place bytes)) = sector_front 128 bytes turned (omega arith) h.half ∙ marked_front old place h.whole ∙ sym (ap (take 128) copy) in
    let behind : take 360 (drop 152 bytes) ≡ take 360 (drop 152 (block_at image (marked_place bytes))) =
    same_within 512 bytes turned h.half 152 360 (omega arith) ∙ ap (take 360) (marked_behind old place h.whole ∙ sym (ap (drop 152) copy)) in
    let named : names_copy bytes (length image) ≡ true =
    both (not (has_bytes_at bytes 64 (codes "_BHRfS_M"))) _ (ap not magic) (both (has_mark bytes) _ marks (both (nat_lt (marked_place bytes) (length image)) (not (nat_eq (marked_place bytes) 16)) low elsewhere)) in
    let alike : is_half (block_at image (marked_place bytes)) bytes ≡ true =
    both (bytes_eq (take 128 bytes) (take 128 (block_at image (marked_place bytes)))) _
    ((bytes_eq-Decides (take 128 bytes) (take 128 (block_at image (marked_place bytes)))).1 front)
    ((bytes_eq-Decides (take 360 (drop 152 bytes)) (take 360 (drop 152 (block_at image (marked_place bytes))))).1 behind) in
    let half : is_half_turned image ≡ true = both (names_copy bytes (length image)) (is_half (block_at image (marked_place bytes)) bytes) named alike in
    (half, put_some image half ∙ ap (set image 16) copy)
