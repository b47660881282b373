-- Which paths lead where in a sample: the root's, one for each directory, and one for each name of a file.
use Rattle.reiser_make_laws.proofs.Imports.{◌≡◌, ◌⊎◌, inl, inr, ℕ, ◌-◌, ◌*◌, ◌/◌, ◌≤◌, ◌<◌, true, List, [], ◌∷◌, length, map, refl, sym, ◌∙◌, ap, subst, arith, Contains, range_with_len, flat_map, is_le, cond_both, Contains-append_left, Contains-append_right, NameList, path_cmp, is_further_name, items, directory_name, path_of, Shape, directory_count, names_in, named_by, ReiserItem, ObjectKey, Naming, root, namings, from_map, LeadsToObject, IsLeastPath, content, laid_content}
use Rattle.reiser_make_laws.proofs.Held.{in_row, in_rows}
use Rattle.reiser_make_laws.proofs.Keeping.{dir_number, object_number}
use Rattle.reiser_make_laws.proofs.Named.{IsLaid, in_root, in_directory, names_are, laid}
use Rattle.reiser_make_laws.proofs.Namings.{bare, root_naming, file_naming, root_row, names_row, laid_namings}
use Rattle.reiser_make_laws.proofs.Parts.{directory_key, file_key}
use Rattle.reiser_make_laws.proofs.Sorting.{path_less, path_same}

-- a path and what it leads to
pub data IsPath (number : ℕ) (path : NameList) (key : ObjectKey) : Type 0 where
  at_root : path ≡ [] → key ≡ root → IsPath number path key
  at_directory : (k : ℕ) → k < directory_count number → path ≡ directory_name k ∷ [] → key ≡ directory_key k → IsPath number path key
  at_name : (i : ℕ) → i < number → path ≡ path_of i → key ≡ file_key number (named_by i) → IsPath number path key

-- the first name of the object that name i names
pub first_name : (i : ℕ) → named_by i ≤ i
first_name i = cond_both (is_further_name i) (i - 1) i (λ n. n ≤ i) (λ _. omega arith) (λ _. omega arith)

module _ (s : Shape) (few : length s.names ≤ 4000) (found : List ReiserItem) (are : map content found ≡ map (laid_content s) (items s)) where
  abbrev number : ℕ
  number = length s.names

  abbrev dirs : ℕ
  dirs = directory_count number

  abbrev names : List Naming
  names = namings found

  laid_name : (n : Naming) → Contains names n → IsLaid number n
  laid_name n among = laid s few found are n among

  -- a name of the layout as it is found
  pub record IsFound (m : Naming) : Type 0 where
    pub n : Naming
    pub among : Contains names n
    pub dir : n.dir ≡ m.dir
    pub target : n.target ≡ m.target
    pub name : n.name ≡ m.name

  found_by : (m : Naming) → Contains (laid_namings number) m → IsFound m
  found_by m there =
      let r = from_map bare names m (subst (λ ns. Contains ns m) (sym (names_are s few found are)) there) in
      record { n = r.0; among = r.1; dir = ap (λ (x : Naming). x.dir) r.2; target = ap (λ (x : Naming). x.target) r.2; name = ap (λ (x : Naming). x.name) r.2 }

  root_found : (k : ℕ) → k < dirs → IsFound (root_naming k)
  root_found k lt =
      found_by (root_naming k)
      (Contains-append_left (root_row number) (flat_map (names_row number) (range_with_len 0 dirs)) (root_naming k) (in_row root_naming 0 dirs k (omega arith) (omega (arith, lt))))

  file_found : (i : ℕ) → i < number → IsFound (file_naming number (i / 100) i)
  file_found i lt =
      let k : ℕ = i / 100 in
      let m : Naming = file_naming number k i in
      found_by m
      (Contains-append_right (root_row number) (flat_map (names_row number) (range_with_len 0 dirs)) m
      (in_rows (names_row number) 0 dirs k m (omega arith) (omega (arith, lt))
      (in_row (file_naming number k) (100 * k) (names_in number k) i (omega arith) (omega (arith, lt)))))

  path_leads_by : (path : NameList) (key : ObjectKey) → IsPath number path key → LeadsToObject names root path key
  path_leads_by path key (at_root is to) = subst (λ (p : NameList). LeadsToObject names root p key) (sym is) (sym to)
  path_leads_by path key (at_directory k lt is to) =
      let f : IsFound (root_naming k) = root_found k lt in
      subst (λ (p : NameList). LeadsToObject names root p key) (sym is) (f.n, f.among, f.dir, f.name, f.target ∙ sym to)
  path_leads_by path key (at_name i lt is to) =
      let d : IsFound (root_naming (i / 100)) = root_found (i / 100) (omega (arith, lt)) in
      let f : IsFound (file_naming number (i / 100) i) = file_found i lt in
      subst (λ (p : NameList). LeadsToObject names root p key) (sym is) (d.n, d.among, d.dir, d.name, (f.n, f.among, f.dir ∙ sym d.target, f.name, f.target ∙ sym to))

  pub path_leads : (path : NameList) (key : ObjectKey) → IsPath number path key → LeadsToObject names root path key
  path_leads path key is = path_leads_by path key is

  -- no name is in a file
  no_further : (i : ℕ) (n : Naming) → IsLaid number n → n.dir ≡ file_key number i → ⊥
  no_further i n (in_root k lt dir target name) is = omega (arith, ap dir_number (sym dir ∙ is))
  no_further i n (in_directory k j lt inside low high dir target name) is = omega (arith, ap dir_number (sym dir ∙ is))

  in_file : (i : ℕ) (names_left : NameList) (from key : ObjectKey) → from ≡ file_key number i → LeadsToObject names from names_left key → (names_left ≡ []) × (key ≡ file_key number i)
  in_file i [] from key is leads = (refl, sym leads ∙ is)
  in_file i (name ∷ more) from key is leads = absurd (no_further i leads.0 (laid_name leads.0 leads.1) (leads.2 ∙ is))

  -- below directory k
  step_file : (k : ℕ) (name : List ℕ) (more : NameList) (key : ObjectKey) (n : Naming) → k < dirs → IsLaid number n → n.dir ≡ directory_key k → n.name ≡ name → LeadsToObject names n.target more key → IsPath number (directory_name k ∷ name ∷ more) key
  step_file k name more key n low (in_root j lt dir target called) is named leads = absurd (omega (arith, ap dir_number (sym dir ∙ is)))
  step_file k name more key n low (in_directory j i lt inside above below dir target called) is named leads =
      let same : j ≡ k = omega (arith, ap object_number (sym dir ∙ is)) in
      let at : k ≡ i / 100 = omega (arith, same, above, below) in
      let end = in_file (named_by i) more n.target key target leads in
      at_name i inside (λ t. directory_name (at t) ∷ (sym named ∙ called) t ∷ end.0 t) end.1

  in_directory_by : (k : ℕ) (names_left : NameList) (from key : ObjectKey) → k < dirs → from ≡ directory_key k → LeadsToObject names from names_left key → IsPath number (directory_name k ∷ names_left) key
  in_directory_by k [] from key low is leads = at_directory k low refl (sym leads ∙ is)
  in_directory_by k (name ∷ more) from key low is leads = step_file k name more key leads.0 low (laid_name leads.0 leads.1) (leads.2 ∙ is) leads.3 leads.4

  step_directory : (name : List ℕ) (more : NameList) (key : ObjectKey) (n : Naming) → IsLaid number n → n.dir ≡ root → n.name ≡ name → LeadsToObject names n.target more key → IsPath number (name ∷ more) key
  step_directory name more key n (in_root k lt dir target called) is named leads =
      subst (λ (x : List ℕ). IsPath number (x ∷ more) key) (sym called ∙ named) (in_directory_by k more n.target key lt target leads)
  step_directory name more key n (in_directory k i lt inside above below dir target called) is named leads = absurd (omega (arith, ap dir_number (sym dir ∙ is)))

  pub leads_path : (path : NameList) (key : ObjectKey) → LeadsToObject names root path key → IsPath number path key
  leads_path [] key leads = at_root refl (sym leads)
  leads_path (name ∷ more) key leads = step_directory name more key leads.0 (laid_name leads.0 leads.1) leads.2 leads.3 leads.4

  -- paths to one object
  to_root : (path : NameList) (key : ObjectKey) → key ≡ root → IsPath number path key → path ≡ []
  to_root path key is (at_root here to) = here
  to_root path key is (at_directory k lt here to) = absurd (omega (arith, ap dir_number (sym to ∙ is)))
  to_root path key is (at_name i lt here to) = absurd (omega (arith, ap dir_number (sym to ∙ is)))

  to_directory : (k : ℕ) (path : NameList) (key : ObjectKey) → key ≡ directory_key k → IsPath number path key → path ≡ directory_name k ∷ []
  to_directory k path key is (at_root here to) = absurd (omega (arith, ap dir_number (sym to ∙ is)))
  to_directory k path key is (at_directory j lt here to) = let same : j ≡ k = omega (arith, ap object_number (sym to ∙ is)) in here ∙ ap (λ n. directory_name n ∷ []) same
  to_directory k path key is (at_name i lt here to) = absurd (omega (arith, ap dir_number (sym to ∙ is)))

  pub record IsNameOf (j : ℕ) (path : NameList) : Type 0 where
    pub i : ℕ
    pub inside : i < number
    pub of : named_by i ≡ j
    pub is : path ≡ path_of i

  to_file : (j : ℕ) (path : NameList) (key : ObjectKey) → key ≡ file_key number j → IsPath number path key → IsNameOf j path
  to_file j path key is (at_root here to) = absurd (omega (arith, ap dir_number (sym to ∙ is)))
  to_file j path key is (at_directory k lt here to) = absurd (omega (arith, ap dir_number (sym to ∙ is)))
  to_file j path key is (at_name i lt here to) = record { i = i; inside = lt; of = omega (arith, ap object_number (sym to ∙ is)); is = here }

  one_path : (p q : NameList) → q ≡ p → is_le (path_cmp p q) ≡ true
  one_path p q same = ap (λ (x : NameList). is_le (path_cmp p x)) same ∙ ap is_le (path_same p)

  pub root_least : IsLeastPath names root []
  root_least = record { leads = path_leads [] root (at_root refl refl); least = λ other leads. one_path [] other (to_root other root refl (leads_path other root leads)) }

  pub directory_least : (k : ℕ) → k < dirs → IsLeastPath names (directory_key k) (directory_name k ∷ [])
  directory_least k lt = record {
    leads = path_leads (directory_name k ∷ []) (directory_key k) (at_directory k lt refl refl);
    least = λ other leads. one_path (directory_name k ∷ []) other (to_directory k other (directory_key k) refl (leads_path other (directory_key k) leads));
  }

  name_least_by : (j i : ℕ) → i < number → (j ≡ i) ⊎ (j < i) → is_le (path_cmp (path_of j) (path_of i)) ≡ true
  name_least_by j i lt (inl same) = one_path (path_of j) (path_of i) (ap path_of (sym same))
  name_least_by j i lt (inr less) = ap is_le (path_less j i less (omega (arith, lt, few)))

  -- the first name of an object is its least
  pub name_least : (j : ℕ) → j < number → named_by j ≡ j → IsLeastPath names (file_key number j) (path_of j)
  name_least j lt own = record {
    leads = path_leads (path_of j) (file_key number j) (at_name j lt refl (ap (file_key number) (sym own)));
    least = λ other leads.
        let o : IsNameOf j other = to_file j other (file_key number j) refl (leads_path other (file_key number j) leads) in
        let low : j ≤ o.i = omega (arith, o.of, first_name o.i) in
        ap (λ (x : NameList). is_le (path_cmp (path_of j) x)) o.is ∙ name_least_by j o.i o.inside (grind (arith, low));
  }
