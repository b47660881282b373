-- The objects and the links of an accepted volume that was opened.
use Rattle.convert_trees_laws.proofs.Imports.{◌≡◌, ◌≢◌, ◌≤◌, ◌<◌, ℕ, suc, ◌/◌, ◌%◌, ◌^◌, true, false, List, [], ◌∷◌, length, count_by, Contains, Option, Some, None, refl, sym, ap, subst, ◌∙◌, ⊎_elim, true≢false, arith, cases_lt, ne_eqb, unwrap_or, keys, Image, from_filter, in_filter, is_directory, kind_of_code, NameList, Kind, Directory, File, Symlink, ReiserItem, ObjectKey, Naming, ObjectStat, stat_of_object, root, same_key, namings, IsDirectory, IsObject, AreNames, ino_of_key, saved_name, links_one, kind_by, no_stat, IsOpened, links_in, LeadsToObject, IsAccepted, volume_items, Volume, AreSortedKeys, numbered, inodes_apart, kind_there, stat_there, two_cases, Options, Piece, kind_of_mode as tree_kind, is_name as is_tree_name, made_from, Source, kind_in, size_in, stat_in}
use Rattle.std.proofs.Common.{AllPairs}
use Rattle.convert_steps.specs.reiser_volume_objects.Names.{is_followed}
use Rattle.std.proofs.lemmas.List.Kept.{AllPairs-filter}
use Rattle.convert_steps.specs.reiser_volume_objects.Kinds.{kind_of_mode}
use Rattle.convert_steps.proofs.reiser_volume.Leading.{link_entry}
use Rattle.convert_trees_laws.proofs.Links.{entries_directory, tree_name}

-- ---- modes

none_above : (code : ℕ) → 12 < code → kind_of_code code ≡ None
none_above code high =
    rw (ne_eqb code 4 (λ is. omega (arith, is, high)), ne_eqb code 8 (λ is. omega (arith, is, high)), ne_eqb code 10 (λ is. omega (arith, is, high)), ne_eqb code 2 (λ is. omega (arith, is, high)), ne_eqb code 6 (λ is. omega (arith, is, high)), ne_eqb code 1 (λ is. omega (arith, is, high)), ne_eqb code 12 (λ is. omega (arith, is, high)))
    refl

no_kind : (kind : Kind) → (let o : Option Kind = None in o) ≡ Some kind → ⊥
no_kind kind is = absurd (cc)

code_low : (code : ℕ) (kind : Kind) → kind_of_code code ≡ Some kind → code ≤ 12
code_low code kind is = ⊎_elim (λ (high : 12 < code). absurd (no_kind kind (sym (none_above code high) ∙ is))) (λ (low : code ≤ 12). low) (cases_lt 12 code)

pub mode_low : (mode : ℕ) (kind : Kind) → kind_of_mode mode ≡ Some kind → mode < 2 ^ 32
mode_low mode kind is = let low = code_low (mode / 4096) kind is in omega (arith, low)

-- both file systems have the kind in these bits
pub tree_kind_is : (mode : ℕ) (kind : Kind) → kind_of_mode mode ≡ Some kind → tree_kind mode ≡ Some kind
tree_kind_is mode kind is = let low = code_low (mode / 4096) kind is in ap kind_of_code (let e : mode / 4096 % 16 ≡ mode / 4096 = omega (arith, low) in e) ∙ is

-- ---- links

-- a link leads from a named directory to a named object
pub record IsGood (volume : Volume) (image : Image) (n : Naming) : Type 0 where
  pub dir_known : Contains (keys volume.named) n.dir
  pub target_known : Contains (keys volume.named) n.target
  pub directory : IsDirectory (volume_items image) n.dir
  pub name : is_tree_name n.name ≡ true
  pub not_root : n.target ≢ root
  pub free : n.dir ≡ root → n.name ≢ saved_name

module _ (volume : Volume) (image : Image) (accepted : IsAccepted image) (opened : IsOpened volume image) where
  abbrev items : List ReiserItem
  items = volume_items image

  abbrev all : List ObjectKey
  all = keys volume.named

  abbrev links : List Naming
  links = links_in volume

  names : AreNames items
  names = accepted.names

  links_same : names.links ≡ links
  links_same = links_one items names.visible names.links opened.visible links names.are_links opened.are_links

  pub root_known : Contains all root
  root_known = (opened.are_keys.exact root).1 (0, refl)

  -- each object has an inode of its own
  pub one : (a b : ObjectKey) → Contains all a → Contains all b → ino_of_key all a ≡ ino_of_key all b → a ≡ b
  one a b in_a in_b same =
      let sorted : AreSortedKeys image all = record { accepted = accepted; are_keys = opened.are_keys; ascend = opened.ascends } in
      let at = numbered image all sorted in
      ⊎_elim (λ is. is) (λ apart. ⊎_elim (λ first. absurd (first same)) (λ second. absurd (second (sym same))) apart) (two_cases (λ x y. ino_of_key all x ≢ ino_of_key all y) all a b (inodes_apart all at.0 at.1) in_a in_b)

  pub good : (n : Naming) → Contains links n → IsGood volume image n
  good n h =
      let among : Contains names.links n = subst (λ (ns : List Naming). Contains ns n) (sym links_same) h in
      let e = link_entry items names.visible names.links names.are_links n among in
      let visible = from_filter is_followed names.visible n (subst (λ (ns : List Naming). Contains ns n) names.are_links.are_links among) in
      record {
        dir_known = (opened.are_keys.exact n.dir).1 e.2;
        target_known = (opened.are_keys.exact n.target).1 (suc e.2.0, (n, in_filter is_followed (namings items) n e.0 e.1, refl, e.2.1));
        directory = entries_directory items n accepted.objects e.0 e.2;
        name = tree_name items n e.0 (names.keeps.names n visible.0);
        not_root = names.keeps.root_once n among;
        free = names.keeps.not_taken n among;
      }

  -- what a path leads to is known
  pub path_known : (from key : ObjectKey) (path : NameList) → Contains all from → LeadsToObject links from path key → Contains all key
  path_known from key [] among leads = subst (Contains all) leads among
  path_known from key (name ∷ path) among leads = path_known leads.0.target key path (good leads.0 leads.1).target_known leads.4

  pub links_short : (n : Naming) → Contains links n → length n.name ≤ 255
  links_short n h = names.keeps.short n (subst (λ (ns : List Naming). Contains ns n) (sym links_same) h)

  pub names_apart : AllPairs (λ m n. m.dir ≡ n.dir → m.name ≢ n.name) links
  names_apart =
      subst (AllPairs (λ (m n : Naming). m.dir ≡ n.dir → m.name ≢ n.name)) (sym names.are_links.are_links ∙ links_same)
      (AllPairs-filter (λ (m n : Naming). m.dir ≡ n.dir → m.name ≢ n.name) is_followed names.visible names.keeps.once)

  pub directories_apart : AllPairs (λ m n. IsDirectory items n.target → m.target ≢ n.target) links
  directories_apart = subst (AllPairs (λ (m n : Naming). IsDirectory items n.target → m.target ≢ n.target)) links_same names.keeps.directories_once

  module _ (o : Options) (pieces : List Piece) where
    abbrev s : Source
    s = made_from volume image o pieces

    object_of : (key : ObjectKey) → Contains all key → IsObject items key
    object_of key h = accepted.objects.each key ((opened.are_keys.exact key).0 h)

    -- the kind by the mode
    pub kind_is : (key : ObjectKey) → Contains all key → kind_of_mode (stat_in s key).fields.mode ≡ Some (kind_in s key)
    kind_is key h =
        let object = object_of key h in
        ap (λ (st : ObjectStat). kind_of_mode st.fields.mode) (stat_there items key object) ∙ (object.known ∙ sym (ap (λ (k : Kind). let r : Option Kind = Some k in r) (kind_there items key object)))

    pub directory_there : (key : ObjectKey) → IsDirectory items key → kind_in s key ≡ Directory
    directory_there key is = ap kind_by (ap (λ (r : Option ObjectStat). unwrap_or r no_stat) is.has_stat) ∙ ap (λ (r : Option Kind). unwrap_or r File) is.known

    pub is_directory_there : (key : ObjectKey) → Contains all key → kind_in s key ≡ Directory → IsDirectory items key
    is_directory_there key h is =
        let object = object_of key h in
        record { stat = object.stat; has_stat = object.has_stat; known = object.known ∙ ap (λ (k : Kind). let r : Option Kind = Some k in r) (sym (kind_there items key object) ∙ is) }

    -- the target of a symlink is short
    pub target_short : (key : ObjectKey) → Contains all key → kind_in s key ≡ Symlink → size_in s key ≤ 3900
    target_short key h is =
        let object = object_of key h in
        let kind : object.kind ≡ Symlink = sym (kind_there items key object) ∙ is in
        let few = names.keeps.targets key object.stat ((opened.are_keys.exact key).0 h) object.has_stat (object.known ∙ ap (λ (k : Kind). let r : Option Kind = Some k in r) kind) in
        let stat = ap (λ (st : ObjectStat). st.fields.size) (stat_there items key object) in
        omega (arith, few, stat)

    -- the stat data of an object
    pub stat_of_key : (key : ObjectKey) → Contains all key → stat_of_object items key ≡ Some (stat_in s key)
    stat_of_key key h =
        let object = object_of key h in
        object.has_stat ∙ ap (λ (st : ObjectStat). let r : Option ObjectStat = Some st in r) (sym (stat_there items key object))

    -- what is no directory has not too many names
    pub few_names : (key : ObjectKey) → Contains all key → is_directory (kind_in s key) ≡ false → count_by (λ n. same_key n.target key) links < 2 ^ 32
    few_names key h no_dir =
        subst (λ (ns : List Naming). count_by (λ n. same_key n.target key) ns < 2 ^ 32) links_same
        (names.keeps.counts key ((opened.are_keys.exact key).0 h) (λ is. true≢false (sym (ap is_directory (directory_there key is)) ∙ no_dir)))
