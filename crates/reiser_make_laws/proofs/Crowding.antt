-- No directory of a sample has too many names: neither those with one hash nor those of one object take too much.
use Rattle.reiser_make_laws.proofs.Imports.{◌≡◌, ℕ, zero, suc, ◌+◌, ◌*◌, ◌≤◌, ◌<◌, Bool, true, false, cond, ◌==◌, ◌&&◌, List, [], ◌∷◌, ◌++◌, length, map, filter, count_by, refl, sym, ◌∙◌, ap, subst, arith, append_assoc, length-append, ne_eqb, nat_lt, range_with_len, flat_map, cond_both, le-ltb, length-map, filter-append, length-map-range_with_len, sum_by-le, count_by-le-length, directory_name, file_name, directory_count, names_in, Each, all_from_each, ObjectKey, Naming, same_key, root, same_key-true, saved_name, crowd_of, reference_size, extended, extended_sum, extended_crowd_of}
use Rattle.std.proofs.Common.{sum_by}
use Rattle.reiser_volume.specs.castagnoli.Castagnoli.{name_hash}
use Rattle.reiser_make_laws.proofs.Ascending.{each_to}
use Rattle.reiser_make_laws.proofs.Lists.{each_filter, each_left, each_row, each_rows, map_filter, filter_none, filter_both_less, filter_less, filter_front_less}
use Rattle.reiser_make_laws.proofs.Named.{IsLaid, in_root, in_directory}
use Rattle.reiser_make_laws.proofs.Namings.{bare, root_naming, file_naming, root_row, names_row, laid_namings}
use Rattle.reiser_make_laws.proofs.Parts.{directory_key}

directory_length : (k : ℕ) → length (directory_name k) ≡ 5
unfolding directory_name
directory_length k = refl

file_length : (i : ℕ) → length (file_name i) ≡ 6
unfolding file_name
file_length i = refl

pub laid_short : (number : ℕ) (n : Naming) → IsLaid number n → length n.name ≤ 6
laid_short number n (in_root k lt dir target name) = omega (arith, ap length name, directory_length k)
laid_short number n (in_directory k i lt few low high dir target name) = omega (arith, ap length name, file_length i)

-- an entry of this directory
abbrev is_in : ObjectKey → Naming → Bool
is_in dir n = same_key n.dir dir

-- no row from directory a on is of this directory
rows_none : (number : ℕ) (dir : ObjectKey) (a n : ℕ) → ((k : ℕ) → a ≤ k → same_key (directory_key k) dir ≡ false) → filter (is_in dir) (flat_map (names_row number) (range_with_len a n)) ≡ []
rows_none number dir a n other =
    filter_none (is_in dir) (flat_map (names_row number) (range_with_len a n))
    (each_rows (λ n. is_in dir n ≡ false) (names_row number) a n
    (λ k low high. each_row (λ n. is_in dir n ≡ false) (file_naming number k) (100 * k) (names_in number k) (λ i low_i high_i. other k low)))

row_less : (number k : ℕ) → length (names_row number k) ≤ 100
row_less number k = omega (arith, length-map-range_with_len (file_naming number k) (100 * k) (names_in number k))

other_key : (a k : ℕ) → a < k → same_key (directory_key k) (directory_key a) ≡ false
other_key a k lt = ap (λ b. true && b) (ne_eqb (3 + k) (3 + a) (λ same. omega (arith, same, lt)))

rows_by : (number : ℕ) (dir : ObjectKey) (a n : ℕ) (b : Bool) → same_key (directory_key a) dir ≡ b → length (filter (is_in dir) (flat_map (names_row number) (range_with_len (a + 1) n))) ≤ 100
    → length (filter (is_in dir) (names_row number a)) + length (filter (is_in dir) (flat_map (names_row number) (range_with_len (a + 1) n))) ≤ 100
rows_by number dir a n true is more =
    let none : filter (is_in dir) (flat_map (names_row number) (range_with_len (a + 1) n)) ≡ [] =
    rows_none number dir (a + 1) n (λ k low. ap (same_key (directory_key k)) (sym (same_key-true (directory_key a) dir is)) ∙ other_key a k (omega (arith, low))) in
    omega (arith, ap length none, filter_less (is_in dir) (names_row number a), row_less number a)
rows_by number dir a n false is more =
    let none : filter (is_in dir) (names_row number a) ≡ [] =
    filter_none (is_in dir) (names_row number a) (each_row (λ n. is_in dir n ≡ false) (file_naming number a) (100 * a) (names_in number a) (λ i low high. is)) in
    omega (arith, ap length none, more)

rows_few : (number : ℕ) (dir : ObjectKey) (a n : ℕ) → length (filter (is_in dir) (flat_map (names_row number) (range_with_len a n))) ≤ 100
rows_few number dir a zero = omega arith
rows_few number dir a (suc n) =
    let row : List Naming = names_row number a in
    let rest : List Naming = flat_map (names_row number) (range_with_len (a + 1) n) in
    omega (
      arith,
      ap length (filter-append (is_in dir) row rest),
      length-append (filter (is_in dir) row) (filter (is_in dir) rest),
      rows_by number dir a n (same_key (directory_key a) dir) refl (rows_few number dir (a + 1) n),
    )

laid_by : (number : ℕ) (dir : ObjectKey) (b : Bool) → number ≤ 4000 → same_key root dir ≡ b
    → length (filter (is_in dir) (root_row number)) + length (filter (is_in dir) (flat_map (names_row number) (range_with_len 0 (directory_count number)))) ≤ 100
laid_by number dir true few is =
    let none : filter (is_in dir) (flat_map (names_row number) (range_with_len 0 (directory_count number))) ≡ [] =
    rows_none number dir 0 (directory_count number) (λ k low. ap (same_key (directory_key k)) (sym (same_key-true root dir is))) in
    omega (arith, ap length none, filter_less (is_in dir) (root_row number), length-map-range_with_len root_naming 0 (directory_count number), few)
laid_by number dir false few is =
    let none : filter (is_in dir) (root_row number) ≡ [] = filter_none (is_in dir) (root_row number) (each_row (λ n. is_in dir n ≡ false) root_naming 0 (directory_count number) (λ k low high. is)) in
    omega (arith, ap length none, rows_few number dir 0 (directory_count number))

laid_few : (number : ℕ) (dir : ObjectKey) → number ≤ 4000 → length (filter (is_in dir) (laid_namings number)) ≤ 100
laid_few number dir few =
    let rows : List Naming = flat_map (names_row number) (range_with_len 0 (directory_count number)) in
    omega (
      arith,
      ap length (filter-append (is_in dir) (root_row number) rows),
      length-append (filter (is_in dir) (root_row number)) (filter (is_in dir) rows),
      laid_by number dir (same_key root dir) few refl,
    )

rows_length : (number a n : ℕ) → length (flat_map (names_row number) (range_with_len a n)) ≤ 100 * n
rows_length number a zero = omega arith
rows_length number a (suc n) =
    omega (arith, length-append (names_row number a) (flat_map (names_row number) (range_with_len (a + 1) n)), row_less number a, rows_length number (a + 1) n)

laid_length : (number : ℕ) → number ≤ 4000 → length (laid_namings number) ≤ 5000
laid_length number few =
    let dirs : ℕ = directory_count number in
    omega (arith, length-append (root_row number) (flat_map (names_row number) (range_with_len 0 dirs)), length-map-range_with_len root_naming 0 dirs, rows_length number 0 dirs, few)

module _ (number : ℕ) (few : number ≤ 4000) (names : List Naming) (are : map bare names ≡ laid_namings number) (all_laid : Each (IsLaid number) names) where
  -- at most a hundred names in one directory
  few_in : (dir : ObjectKey) → length (filter (is_in dir) names) ≤ 100
  few_in dir =
      omega (arith, length-map (filter (is_in dir) names) bare, ap length (map_filter bare (is_in dir) names), ap (λ ns. length (filter (is_in dir) ns)) are, laid_few number dir few)

  pub counts_low : (p : Naming → Bool) → count_by p names ≤ 5000
  counts_low p = omega (arith, count_by-le-length p names, length-map names bare, ap length are, laid_length number few)

  all_short : Each (λ n. length n.name ≤ 6) names
  all_short = each_to (IsLaid number) (λ n. length n.name ≤ 6) (laid_short number) names all_laid

  pub crowds_fit : (dir : ObjectKey) (hash : ℕ) → crowd_of names dir hash ≤ 3900
  crowds_fit dir hash =
      let in_hash = λ (n : Naming). name_hash n.name == hash in
      let kept : List Naming = filter (λ n. is_in dir n && in_hash n) names in
      let less : length kept ≤ 100 = omega (arith, filter_both_less (is_in dir) in_hash names, few_in dir) in
      let each : Each (λ n. 30 + length n.name ≤ 36) kept =
      each_filter (λ n. 30 + length n.name ≤ 36) (λ n. is_in dir n && in_hash n) names (each_to (λ n. length n.name ≤ 6) (λ n. 30 + length n.name ≤ 36) (λ n low. omega (arith, low)) names all_short) in
      let sum : sum_by (λ (n : Naming). 30 + length n.name) kept ≤ length kept * 36 = sum_by-le (λ (n : Naming). 30 + length n.name) 36 kept (all_from_each (λ n. 30 + length n.name ≤ 36) kept each) in
      let saved : cond (same_key root dir && (name_hash saved_name == hash)) (30 + length saved_name) 0 ≤ 44 =
      cond_both (same_key root dir && (name_hash saved_name == hash)) (30 + length saved_name) 0 (λ n. n ≤ 44) (λ _. omega arith) (λ _. omega arith) in
      omega (arith, less, sum, saved)

  -- names of one object in one directory, of some of all names
  references_low : (seen more : List Naming) (dir object : ObjectKey) → seen ++ more ≡ names → reference_size seen dir object ≤ 1600
  references_low seen more dir object whole =
      let is_of = λ (n : Naming). same_key n.target object in
      let kept : List Naming = filter (λ n. is_in dir n && is_of n) seen in
      let less : length kept ≤ 100 = omega (arith, filter_both_less (is_in dir) is_of seen, filter_front_less (is_in dir) seen more, ap (λ ns. length (filter (is_in dir) ns)) whole, few_in dir) in
      let first : Each (λ n. length n.name ≤ 6) seen = each_left (λ n. length n.name ≤ 6) seen more (subst (Each (λ n. length n.name ≤ 6)) (sym whole) all_short) in
      let each : Each (λ n. 10 + length n.name ≤ 16) kept =
      each_filter (λ n. 10 + length n.name ≤ 16) (λ n. is_in dir n && is_of n) seen (each_to (λ n. length n.name ≤ 6) (λ n. 10 + length n.name ≤ 16) (λ n low. omega (arith, low)) seen first) in
      let sum : sum_by (λ (n : Naming). 10 + length n.name) kept ≤ length kept * 16 = sum_by-le (λ (n : Naming). 10 + length n.name) 16 kept (all_from_each (λ n. 10 + length n.name ≤ 16) kept each) in
      omega (arith, less, sum)

  none_extended : (seen rest : List Naming) → seen ++ rest ≡ names → extended seen rest ≡ []
  none_extended seen [] whole = refl
  none_extended seen (n ∷ ns) whole =
      let next : (seen ++ n ∷ []) ++ ns ≡ names = append_assoc seen (n ∷ []) ns ∙ whole in
      let low : reference_size (seen ++ n ∷ []) n.dir n.target ≤ 1600 = references_low (seen ++ n ∷ []) ns n.dir n.target next in
      let fits : nat_lt 3900 (reference_size (seen ++ n ∷ []) n.dir n.target) ≡ false = le-ltb 3900 (reference_size (seen ++ n ∷ []) n.dir n.target) (omega (arith, low)) in
      ap (λ b. cond b (n ∷ []) [] ++ extended (seen ++ n ∷ []) ns) fits ∙ none_extended (seen ++ n ∷ []) ns next

  pub extended_fit : (keys : List ObjectKey) (object : ObjectKey) (hash : ℕ) → extended_crowd_of names keys object hash ≤ 3900
  extended_fit keys object hash = subst (λ ns. extended_sum keys ns object hash ≤ 3900) (sym (none_extended [] names refl)) (omega arith)
