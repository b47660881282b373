-- A superblock with its mark: what is read of it, and which sectors it has of others.
use Rattle.super_turn.proofs.Imports.{◌≡◌, ℕ, ◌+◌, ◌^◌, ◌<◌, ◌≤◌, Bool, true, List, ◌++◌, length, take, drop, nat_eq, sym, ◌∙◌, ap, arith, length-append, length-take, length-drop, drop-drop, drop_at, take-take, take_at, codes, little_bytes, little_number, length-bytes_low_first, little_number-reads_back, has_mark, mark, marked, marked_place, with_first}
use Rattle.std.specs.List.{starts_with}

length-mark : (place : ℕ) → length (mark place) ≡ 24
length-mark place =
    let number : length (little_bytes 8 place) ≡ 8 = length-bytes_low_first 0 8 place in
    omega (arith, number, length-append (codes "reiserconv turns") (little_bytes 8 place))

module _ (old : List ℕ) (place : ℕ) (whole : length old ≡ 4096) where
  abbrev behind : List ℕ
  behind = drop 24 (drop 128 old)

  front_long : length (take 128 old) ≡ 128
  front_long = omega (arith, length-take 128 old, whole)

  -- the bytes before the mark are those of the superblock
  pub marked_front : take 128 (marked old place) ≡ take 128 old
  marked_front = take_at (take 128 old) (mark place ++ behind) 128 front_long

  from_mark : drop 128 (marked old place) ≡ mark place ++ behind
  from_mark = drop_at (take 128 old) (mark place ++ behind) 128 front_long

  -- and so are those behind it
  pub marked_behind : drop 152 (marked old place) ≡ drop 152 old
  marked_behind =
      sym (drop-drop 24 128 (marked old place)) ∙ ap (drop 24) from_mark ∙ drop_at (mark place) behind 24 (length-mark place) ∙ drop-drop 24 128 old

  -- with all sectors but the first
  pub marked_rest : drop 512 (marked old place) ≡ drop 512 old
  marked_rest = sym (drop-drop 360 152 (marked old place)) ∙ ap (drop 360) marked_behind ∙ drop-drop 360 152 old

  pub marked_has : has_mark (marked old place) ≡ true
  marked_has = ap (λ (zs : List ℕ). starts_with nat_eq zs (codes "reiserconv turns")) from_mark

  pub marked_names : place < 2 ^ 64 → marked_place (marked old place) ≡ place
  marked_names small =
      let low : place < 256 ^ 8 = omega (arith, small) in
      ap (little_number 8) (sym (drop-drop 16 128 (marked old place)) ∙ ap (drop 16) from_mark) ∙ little_number-reads_back 8 place behind low

  pub marked_long : length (marked old place) ≡ 4096
  marked_long =
      omega (arith, whole, front_long, length-mark place, length-append (take 128 old) (mark place ++ behind), length-append (mark place) behind, length-drop 24 (drop 128 old), length-drop 128 old)

-- ---- the first sector of one block, and the others of another
module _ (first rest : List ℕ) (whole : length first ≡ 4096) where
  first_long : length (take 512 first) ≡ 512
  first_long = omega (arith, length-take 512 first, whole)

  pub joined_first : take 512 (with_first first rest) ≡ take 512 first
  joined_first = take_at (take 512 first) (drop 512 rest) 512 first_long

  pub joined_rest : drop 512 (with_first first rest) ≡ drop 512 rest
  joined_rest = drop_at (take 512 first) (drop 512 rest) 512 first_long

-- what is the same in the first sector is so in its front
pub sector_front : (n : ℕ) (xs ys : List ℕ) → n ≤ 512 → take 512 xs ≡ take 512 ys → take n xs ≡ take n ys
sector_front n xs ys low same = sym (take-take n 512 xs low) ∙ ap (take n) same ∙ take-take n 512 ys low
