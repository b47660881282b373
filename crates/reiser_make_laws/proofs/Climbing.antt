-- The rows of a sample ascend by path.
use Rattle.reiser_make_laws.proofs.Imports.{◌≡◌, ℕ, zero, suc, ◌+◌, ◌*◌, ◌/◌, ◌≤◌, ◌<◌, List, [], ◌∷◌, get_or, refl, ◌∙◌, ap, arith, range_with_len, flat_map, Less, NameList, WholeRow, path_cmp, AscendsByPath, directory_name, file_name, directory_row, path_of, directory_count, names_in, named_by, SampleEntry, Name, Each, Pairs, all_pairs_from_pairs}
use Rattle.reiser_make_laws.proofs.Ascending.{each_to, pairs_append}
use Rattle.reiser_make_laws.proofs.Counted.{row_by, rows_in, rows_by, own_path}
use Rattle.reiser_make_laws.proofs.Lists.{each_row, each_rows, pairs_row}
use Rattle.reiser_make_laws.proofs.Sorting.{directory_less, first_less, rest_less, path_less}

abbrev Under : WholeRow → WholeRow → Type 0
Under a b = path_cmp a.path b.path ≡ Less

under_by : (x y : WholeRow) (p q : NameList) → x.path ≡ p → y.path ≡ q → path_cmp p q ≡ Less → Under x y
under_by x y p q is_p is_q less = ap (λ z. path_cmp z y.path) is_p ∙ ap (path_cmp p) is_q ∙ less

-- a path into directory k
abbrev Begins : ℕ → WholeRow → Type 0
Begins k row = (rest : NameList) × (row.path ≡ directory_name k ∷ rest)

module _ (number : ℕ) (names : List SampleEntry) (few : number ≤ 4000) where
  name_path : (i : ℕ) → (row_by number names i).path ≡ path_of i
  name_path i = own_path number i (named_by i) (get_or names (named_by i) Name)

  begins : (k : ℕ) → Each (Begins k) (rows_in number names k)
  begins k = (
    ([], refl),
    each_row (Begins k) (row_by number names) (100 * k) (names_in number k)
        (λ i low high. let at : i / 100 ≡ k = omega (arith, low, high) in (file_name i ∷ [], name_path i ∙ ap (λ n. directory_name n ∷ file_name i ∷ []) at)),
  )

  names_climb : (k : ℕ) → Pairs Under (rows_in number names k)
  names_climb k = (
    each_row (Under (directory_row (directory_name k ∷ []))) (row_by number names) (100 * k) (names_in number k)
        (λ i low high.
        let at : k ≡ i / 100 = omega (arith, low, high) in
        under_by (directory_row (directory_name k ∷ [])) (row_by number names i) (directory_name k ∷ []) (path_of i) refl (name_path i)
        (rest_less (directory_name k) (directory_name (i / 100)) [] (file_name i ∷ []) (ap directory_name at) refl)),
    pairs_row Under (row_by number names) (100 * k) (names_in number k)
        (λ i j low lt high. under_by (row_by number names i) (row_by number names j) (path_of i) (path_of j) (name_path i) (name_path j) (path_less i j lt (omega (arith, low, lt, high, few)))),
  )

  apart : (j k : ℕ) (x y : WholeRow) → j < k → k < directory_count number → Begins j x → Begins k y → Under x y
  apart j k x y lt low of_x of_y =
      under_by x y (directory_name j ∷ of_x.0) (directory_name k ∷ of_y.0) of_x.1 of_y.1
      (first_less (directory_name j) (directory_name k) of_x.0 of_y.0 (directory_less j k lt (omega (arith, low, few))))

  directories_climb : (a n : ℕ) → a + n ≤ directory_count number → Pairs Under (flat_map (rows_in number names) (range_with_len a n))
  directories_climb a zero low = tt
  directories_climb a (suc n) low =
      let later : List WholeRow = flat_map (rows_in number names) (range_with_len (a + 1) n) in
      pairs_append Under (rows_in number names a) later (names_climb a) (directories_climb (a + 1) n (omega (arith, low)))
      (each_to (Begins a) (λ x. Each (Under x) later)
      (λ x of_x.
      each_rows (Under x) (rows_in number names) (a + 1) n
      (λ k above below. each_to (Begins k) (Under x) (λ y of_y. apart a k x y (omega (arith, above)) (omega (arith, below, low)) of_x of_y) (rows_in number names k) (begins k)))
      (rows_in number names a) (begins a))

  rows_climb : Pairs Under (rows_by number names)
  rows_climb =
      let dirs : ℕ = directory_count number in (
        each_rows (Under (directory_row [])) (rows_in number names) 0 dirs
            (λ k low high.
            each_to (Begins k) (Under (directory_row [])) (λ y of_y. ap (path_cmp []) of_y.1) (rows_in number names k) (begins k)),
        directories_climb 0 dirs (omega arith),
      )

  pub rows_ascend : AscendsByPath (rows_by number names)
  rows_ascend k d within = all_pairs_from_pairs Under (rows_by number names) rows_climb k (k + 1) d (omega arith) within
