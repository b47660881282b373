-- A sample keeps the rules of objects and of names.
use Rattle.reiser_make_laws.proofs.Imports.{◌≡◌, ◌≢◌, inr, ⊎_elim, ℕ, zero, suc, ◌+◌, ◌-◌, ◌*◌, ◌/◌, ◌%◌, ◌^◌, ◌≤◌, ◌<◌, true, false, cond, ◌==◌, ◌&&◌, not, true≢false, List, [], ◌∷◌, length, map, get_or, refl, sym, ◌∙◌, ap, subst, arith, ne_eqb, Contains, nat_lt, range_with_len, flat_map, list_any, cond_both, or_from, nat_tests, ItemHead, Indirect, Direct, are_entries, StatData, items, items_of_content, directory_items, item, pointer_items, byte_items, decimal, directory_name, file_name, Shape, directory_count, names_in, object_count, root_id, directory_id, file_id, named_by, SampleEntry, Name, Symlink, File, Body, Root, Names, Pointers, Bytes, ObjectId, ReiserItem, Each, Pairs, all_pairs_from_pairs, ObjectKey, Naming, same_key, root, namings, IsNamed, AreObjects, IsDirectory, is_name, saved_name, KeepsNameRules, AreNames, content, laid_content}
use Rattle.reiser_volume.specs.reiser_volume_objects.Summary.{has_entries}
use Rattle.reiser_volume.specs.fs_rows.declared.row.Kind.TheVariants as kinds
use Rattle.reiser_make.specs.Items as laid
use Rattle.reiser_make.specs.declared.sample_item.SampleItem as parts
use Rattle.reiser_make_laws.proofs.Ascending.{each_to, each_join, either_each, pairs_append}
use Rattle.reiser_make_laws.proofs.Crowding.{laid_short, counts_low, crowds_fit, extended_fit}
use Rattle.reiser_make_laws.proofs.Found.{each_found}
use Rattle.reiser_make_laws.proofs.Lists.{each_in, each_row, each_rows, pairs_from_map, pairs_row, pairs_rows, pairs_from_each}
use Rattle.reiser_make_laws.proofs.Named.{IsLaid, in_root, in_directory, IsKept, kept_root, kept_directory, kept_file, IsOwnName, named_own, laid_followed, names_are, all_laid, laid, kept, links_are, keys, keys_are}
use Rattle.reiser_make_laws.proofs.Namings.{bare, root_naming, file_naming, root_row, names_row, laid_namings, root_formed, names_formed}
use Rattle.reiser_make_laws.proofs.Objects.{IsSampleShape, IsNamedObject, IsNoDirectory, object_fields, same_kind, kind_one, directory_of, directory_stat, no_save_link, root_object, names_object, own_object}
use Rattle.reiser_make_laws.proofs.Parts.{directory_key, file_key, root_items, names_items, file_items}

-- bodies of directories are on the grammar of entries
abbrev IsFormed : ItemHead × List ℕ → Type 0
IsFormed c = has_entries c.0.kind ≡ true → are_entries c.0.count c.1 ≡ true

directory_formed : (s : Shape) (id : ObjectId) (nlink count : ℕ) (body : Body) → are_entries count (laid.body_bytes s true body) ≡ true → Each (λ x. IsFormed (laid_content s x)) (directory_items s.old id nlink count body)
directory_formed s id nlink count body formed = ((λ bad. absurd (true≢false (sym bad))), ((λ _. formed), tt))

content_formed : (s : Shape) (i : ℕ) (c : SampleEntry) → Each (λ x. IsFormed (laid_content s x)) (items_of_content s i c)
unfolding items_of_content
content_formed s i Name = tt
content_formed s i Symlink = ((λ bad. absurd (true≢false (sym bad))), ((λ bad. absurd (true≢false (sym bad))), tt))
content_formed s i (File whole rest sparse) =
    let id : ObjectId = file_id (length s.names) i in (
      λ bad. absurd (true≢false (sym bad)),
      each_join (λ x. IsFormed (laid_content s x)) (pointer_items s.old id i whole) (byte_items s.old id i whole rest)
          (either_each (λ x. IsFormed (laid_content s x)) (whole == 0) [] (item id 1 Indirect s.old 0 (4 * whole) (Pointers i) ∷ []) tt ((λ bad. absurd (true≢false (sym bad))), tt))
          (either_each (λ x. IsFormed (laid_content s x)) (rest == 0) [] (item id (4096 * whole + 1) Direct s.old 0xFFFF rest (Bytes i) ∷ []) tt ((λ bad. absurd (true≢false (sym bad))), tt)),
    )

object_formed : (s : Shape) → length s.names ≤ 4000 → (o : ℕ) → Each (λ x. IsFormed (laid_content s x)) (laid.items_of_name s o)
unfolding laid.items_of_name
object_formed s few o =
    let dirs : ℕ = directory_count (length s.names) in
    let P = λ (xs : List parts.SampleItem). Each (λ x. IsFormed (laid_content s x)) xs in
    cond_both (o == 0) (root_items s) (cond (nat_lt o (dirs + 1)) (names_items s (o - 1)) (file_items s (o - dirs - 1))) P
    (λ _. directory_formed s root_id (2 + dirs) (2 + dirs) Root (root_formed s few))
    (λ later.
    cond_both (nat_lt o (dirs + 1)) (names_items s (o - 1)) (file_items s (o - dirs - 1)) P
    (λ inside.
    let lt : o - 1 < dirs = grind (arith, nat_tests, inside, later) in
    directory_formed s (directory_id (o - 1)) 2 (2 + names_in (length s.names) (o - 1)) (Names (o - 1)) (names_formed s few (o - 1) lt))
    (λ _. content_formed s (o - dirs - 1) (get_or s.names (o - dirs - 1) Name)))

all_formed : (s : Shape) → length s.names ≤ 4000 → Each (λ x. IsFormed (laid_content s x)) (items s)
unfolding items
all_formed s few = each_rows (λ x. IsFormed (laid_content s x)) (laid.items_of_name s) 0 (object_count (length s.names)) (λ o low high. object_formed s few o)

-- names without slashes and dots
no_slash : (n x : ℕ) → list_any (λ b. b == 47) (decimal n x) ≡ false
no_slash zero x = refl
no_slash (suc n) x = or_from (48 + x / 10 ^ n % 10 == 47) (list_any (λ b. b == 47) (decimal n x)) (ne_eqb (48 + x / 10 ^ n % 10) 47 (λ same. omega (arith, same))) (no_slash n x)

directory_good : (k : ℕ) → is_name (directory_name k) ≡ true
unfolding directory_name
directory_good k = ap (λ b. not b && true) (no_slash 4 k)

file_good : (i : ℕ) → is_name (file_name i) ≡ true
unfolding file_name
file_good i = ap (λ b. not b && true) (no_slash 5 i)

laid_good : (number : ℕ) (n : Naming) → IsLaid number n → is_name n.name ≡ true
laid_good number n (in_root k lt dir target name) = ap is_name name ∙ directory_good k
laid_good number n (in_directory k i lt few low high dir target name) = ap is_name name ∙ file_good i

-- names that are the same have the same number
tens : (x : ℕ) → x ≡ 10 * (x / 10) + x % 10
tens x = omega arith

hundreds : (x : ℕ) → x / 10 ≡ 10 * (x / 100) + x / 10 % 10
hundreds x = omega arith

thousands : (x : ℕ) → x / 100 ≡ 10 * (x / 1000) + x / 100 % 10
thousands x = omega arith

ten_thousands : (x : ℕ) → x / 1000 ≡ 10 * (x / 10000) + x / 1000 % 10
ten_thousands x = omega arith

directory_one : (j k : ℕ) → j < 10000 → k < 10000 → directory_name j ≡ directory_name k → j ≡ k
unfolding directory_name
directory_one j k low_j low_k same =
    let a : 48 + j / 1000 % 10 ≡ 48 + k / 1000 % 10 = ap (λ (z : List ℕ). get_or z 1 0) same in
    let b : 48 + j / 100 % 10 ≡ 48 + k / 100 % 10 = ap (λ (z : List ℕ). get_or z 2 0) same in
    let c : 48 + j / 10 % 10 ≡ 48 + k / 10 % 10 = ap (λ (z : List ℕ). get_or z 3 0) same in
    let d : 48 + j / 1 % 10 ≡ 48 + k / 1 % 10 = ap (λ (z : List ℕ). get_or z 4 0) same in
    omega (arith, a, b, c, d, low_j, low_k, tens j, tens k, hundreds j, hundreds k, thousands j, thousands k, ten_thousands j, ten_thousands k)

pub file_one : (j k : ℕ) → j < 100000 → k < 100000 → file_name j ≡ file_name k → j ≡ k
unfolding file_name
file_one j k low_j low_k same =
    let a : 48 + j / 10000 % 10 ≡ 48 + k / 10000 % 10 = ap (λ (z : List ℕ). get_or z 1 0) same in
    let b : 48 + j / 1000 % 10 ≡ 48 + k / 1000 % 10 = ap (λ (z : List ℕ). get_or z 2 0) same in
    let c : 48 + j / 100 % 10 ≡ 48 + k / 100 % 10 = ap (λ (z : List ℕ). get_or z 3 0) same in
    let d : 48 + j / 10 % 10 ≡ 48 + k / 10 % 10 = ap (λ (z : List ℕ). get_or z 4 0) same in
    let e : 48 + j / 1 % 10 ≡ 48 + k / 1 % 10 = ap (λ (z : List ℕ). get_or z 5 0) same in
    omega (arith, a, b, c, d, e, low_j, low_k, tens j, tens k, hundreds j, hundreds k, thousands j, thousands k, ten_thousands j, ten_thousands k)

-- one name stands for one entry of a directory
abbrev OneName : Naming → Naming → Type 0
OneName m n = m.dir ≡ n.dir → m.name ≢ n.name

abbrev pub object_number : ObjectKey → ℕ
object_number key = key.object

abbrev pub dir_number : ObjectKey → ℕ
dir_number key = key.dir

laid_once : (number : ℕ) → number ≤ 4000 → Pairs OneName (laid_namings number)
laid_once number few =
    let dirs : ℕ = directory_count number in
    let rows : List Naming = flat_map (names_row number) (range_with_len 0 dirs) in
    pairs_append OneName (root_row number) rows
    (pairs_row OneName root_naming 0 dirs (λ j k low lt high dir name. omega (arith, lt, high, few, directory_one j k (omega (arith, lt, high, few)) (omega (arith, high, few)) name)))
    (pairs_rows OneName (λ k n. n.dir ≡ directory_key k) (names_row number) 0 dirs
    (λ k. each_row (λ n. n.dir ≡ directory_key k) (file_naming number k) (100 * k) (names_in number k) (λ i low high. refl))
    (λ k. pairs_row OneName (file_naming number k) (100 * k) (names_in number k)
    (λ i j low lt high dir name. omega (arith, lt, file_one i j (omega (arith, lt, low, high, few)) (omega (arith, low, lt, high, few)) name)))
    (λ j k x y lt of_x of_y dir name. omega (arith, lt, ap object_number (sym of_x ∙ dir ∙ of_y))))
    (each_row (λ x. Each (OneName x) rows) root_naming 0 dirs
    (λ j low high.
    each_rows (OneName (root_naming j)) (names_row number) 0 dirs
    (λ k low_k high_k. each_row (OneName (root_naming j)) (file_naming number k) (100 * k) (names_in number k) (λ i low_i high_i dir name. omega (arith, ap dir_number dir)))))

laid_not_root : (number : ℕ) (n : Naming) → IsLaid number n → n.target ≢ root
laid_not_root number n (in_root k lt dir target name) same = omega (arith, ap dir_number (sym target ∙ same))
laid_not_root number n (in_directory k i lt few low high dir target name) same = omega (arith, ap dir_number (sym target ∙ same))

laid_not_saved : (number : ℕ) (n : Naming) → IsLaid number n → n.name ≢ saved_name
laid_not_saved number n is same = omega (arith, laid_short number n is, ap length same)

module _ (s : Shape) (shaped : IsSampleShape s) (found : List ReiserItem) (are : map content found ≡ map (laid_content s) (items s)) where
  abbrev number : ℕ
  number = length s.names

  abbrev names : List Naming
  names = namings found

  abbrev few : number ≤ 4000
  few = shaped.few

  -- all names are those of the layout
  each_name : Each (IsLaid number) names
  each_name = all_laid s few found are

  laid_name : (n : Naming) → Contains names n → IsLaid number n
  laid_name n among = laid s few found are n among

  kept_object_by : (key : ObjectKey) → IsKept number key → IsNamedObject s found key
  kept_object_by key (kept_root is) =
      subst (IsNamedObject s found) (sym is)
      (record { kind = kinds.Directory; stat = directory_stat (2 + directory_count number) (2 + directory_count number); is = root_object s shaped found are; short = inr (λ same. cc) })
  kept_object_by key (kept_directory k lt is) =
      subst (IsNamedObject s found) (sym is)
      (record { kind = kinds.Directory; stat = directory_stat 2 (2 + names_in number k); is = names_object s shaped found are k lt; short = inr (λ same. cc) })
  kept_object_by key (kept_file i lt own is) = subst (IsNamedObject s found) (sym is) (own_object s shaped found are i lt own).object

  pub kept_object : (key : ObjectKey) → IsNamed found key → IsNamedObject s found key
  kept_object key is = kept_object_by key (kept s few found are key is)

  pub objects_are : AreObjects found
  objects_are = record {
    no_save_link = no_save_link s shaped found are;
    root_directory = directory_of s found root _ (root_object s shaped found are);
    each = λ key is. (kept_object key is).is.object;
  }

  -- no file of a directory is a directory
  abbrev NoDirectory : Naming → Type 0
  NoDirectory n = IsDirectory found n.target → ⊥

  file_no : (k i : ℕ) → i < number → NoDirectory (file_naming number k i)
  file_no k i lt directory =
      let own : IsOwnName number (named_by i) = named_own number i lt in
      let is : IsNoDirectory s found (file_key number (named_by i)) = own_object s shaped found are (named_by i) own.inside own.own in
      is.no_directory (kind_one s found (file_key number (named_by i)) is.object.kind is.object.stat is.object.is directory)

  -- where the later name is a directory's, the earlier one names another object
  abbrev OneDirectory : Naming → Naming → Type 0
  OneDirectory m n = IsDirectory found n.target → m.target ≢ n.target

  rows_no : Each NoDirectory (flat_map (names_row number) (range_with_len 0 (directory_count number)))
  rows_no =
      each_rows NoDirectory (names_row number) 0 (directory_count number)
      (λ k low high. each_row NoDirectory (file_naming number k) (100 * k) (names_in number k) (λ i low_i high_i. file_no k i (omega (arith, low_i, high_i))))

  directories_laid : Pairs OneDirectory (laid_namings number)
  directories_laid =
      let dirs : ℕ = directory_count number in
      let rows : List Naming = flat_map (names_row number) (range_with_len 0 dirs) in
      let vacuous = λ (x y : Naming) (no : NoDirectory y) (is : IsDirectory found y.target) (same : x.target ≡ y.target). no is in
      pairs_append OneDirectory (root_row number) rows
      (pairs_row OneDirectory root_naming 0 dirs (λ j k low lt high is same. omega (arith, lt, ap object_number same)))
      (pairs_from_each OneDirectory NoDirectory vacuous rows rows_no)
      (each_row (λ x. Each (OneDirectory x) rows) root_naming 0 dirs (λ j low high. each_to NoDirectory (OneDirectory (root_naming j)) (vacuous (root_naming j)) rows rows_no))

  pub names_keep : KeepsNameRules found names names (keys s few found are)
  names_keep =
      let names_is : map bare names ≡ laid_namings number = names_are s few found are in
      record {
        forms = λ i among entries named. each_in (λ (j : ReiserItem). IsFormed (content j)) found i (each_found s IsFormed found (items s) are (all_formed s few)) among entries;
        names = λ n among. laid_good number n (laid_name n among);
        private = λ n among hidden. absurd (true≢false (sym (laid_followed number n (laid_name n among)) ∙ hidden));
        short = λ n among. omega (arith, laid_short number n (laid_name n among));
        targets = λ key stat named has symlink.
            let o : IsNamedObject s found key = kept_object key named in
            let fields = object_fields s found key o.kind o.stat stat o.is has in
            ⊎_elim (λ (low : o.stat.size ≤ 3900). omega (arith, low, ap (λ (f : StatData). f.size) fields)) (λ (other : o.kind ≢ kinds.Symlink). absurd (other (same_kind s found key o.kind kinds.Symlink o.stat stat o.is has symlink))) o.short;
        once = all_pairs_from_pairs OneName names (pairs_from_map bare OneName names (subst (Pairs OneName) (sym names_is) (laid_once number few)));
        directories_once = all_pairs_from_pairs OneDirectory names (pairs_from_map bare OneDirectory names (subst (Pairs OneDirectory) (sym names_is) directories_laid));
        root_once = λ n among. laid_not_root number n (laid_name n among);
        not_taken = λ n among dir. laid_not_saved number n (laid_name n among);
        counts = λ key named other. omega (arith, counts_low number few names names_is each_name (λ n. same_key n.target key));
        crowds = crowds_fit number few names names_is each_name;
        extended_crowds = extended_fit number few names names_is each_name (keys s few found are);
      }

  pub names_hold : AreNames found
  names_hold = record {
    visible = names;
    links = names;
    are_links = links_are s few found are;
    keys = keys s few found are;
    are_keys = keys_are s few found are;
    keeps = names_keep;
  }
