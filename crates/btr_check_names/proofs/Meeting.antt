-- What was met of a table, and what was not.
use Rattle.btr_check_names.proofs.Imports.{◌≡◌, ◌≢◌, ℕ, ◌+◌, ◌<◌, ◌≤◌, Bool, true, false, cond, List, [], ◌∷◌, ◌++◌, length, map, get_or, filter, refl, sym, ap, ◌∙◌, subst, arith, Some, eq-eqb, if◌then◌else◌, ◌==◌, ◌&&◌, set, true≢false, Contains-append_left, Contains-permutation, IsPermutation-append_left, IsPermutation-cons, IsPermutation-sym, IsPermutation-to_front, IsPermutation-trans, sum_by-append, sum_by-cons, get_or_from_slice_get, slice_get-get_or, slice_get_within, Decides, Contains, count_by, slice_get, IsPermutation, Key, IsTooMany, chosen, BackName, IndexEntry, NamedEntry, back_name, entries_in, names_inode_item, names_of, own_name, AreNames, IsNamedAt, NamesMet, back_names, given, hashed_of, named, own_names, told_of, INODE_ITEM}
use Rattle.btr_check_rules.specs.btr_reader.btr_reader_walk.btr_keys.btrfs_format.declared.object.TheConstants.{FIRST_FREE_OBJECTID}
use Rattle.btr_check_names.proofs.Marking.{absent, chosen_all, marked_one, met_before, met_one, no_more, not_same, short_of}
use Rattle.btr_check_names.proofs.Noting.{filter_true, given_once, named_once, not_given, other_entry, other_name}
use Rattle.btr_check_names.proofs.Permuting.{Contains-here, any_of, get_or_any}

-- ---- values with the same fields

same_entry : (a b : NamedEntry) → a.dir ≡ b.dir → a.name ≡ b.name → a.location ≡ b.location → a.kind ≡ b.kind → a ≡ b
same_entry a b dir name location kind =
    ap (λ (d : ℕ). make d a.name a.location a.kind) dir ∙ (ap (λ (n : List ℕ). make b.dir n a.location a.kind) name ∙ (ap (λ (l : Key). make b.dir b.name l a.kind) location ∙ ap (make b.dir b.name b.location) kind))
  where
    make : ℕ → List ℕ → Key → ℕ → NamedEntry
    make d n l k = record { dir = d; name = n; location = l; kind = k }

same_name : (a b : BackName) → a.inode ≡ b.inode → a.dir ≡ b.dir → a.index ≡ b.index → a.name ≡ b.name → a ≡ b
same_name a b inode dir index name =
    ap (λ (i : ℕ). make i a.dir a.index a.name) inode ∙ (ap (λ (d : ℕ). make b.inode d a.index a.name) dir ∙ (ap (λ (k : ℕ). make b.inode b.dir k a.name) index ∙ ap (make b.inode b.dir b.index) name))
  where
    make : ℕ → ℕ → ℕ → List ℕ → BackName
    make i d k n = record { inode = i; dir = d; index = k; name = n }

-- ---- dir items

-- an entry is that of a dir item, where both tell the same
module _ (t : NamesMet) (x : NamedEntry) (i : ℕ) (at : IsNamedAt t.entries x.dir x.name i) (r : Bool)
    (tells : Decides r ((at.0.entry.location ≡ x.location) × (at.0.entry.kind ≡ x.kind))) where
  pub item_other : AreNames t.entries → r ≡ false → (met : List NamedEntry) → IsTooMany (named t.entries) met x
  item_other are not_so met =
      absent (named t.entries) met x
      (other_entry t.entries are.once x i at (λ is. true≢false (sym (tells.1 (ap (λ (n : NamedEntry). n.location) is, ap (λ (n : NamedEntry). n.kind) is)) ∙ not_so)))

  item_same : r ≡ true → at.0.entry ≡ x
  item_same so = same_entry at.0.entry x at.2.0 at.2.1 (tells.0 so).0 (tells.0 so).1

  item_here : get_or t.entries i at.0 ≡ at.0
  item_here = get_or_from_slice_get t.entries i at.0 at.0 at.1

  pub item_again : length t.hashed ≡ length t.entries → AreNames t.entries → r ≡ true → (b : Bool) → get_or t.hashed i b ≡ true → (met : List NamedEntry) → IsPermutation (hashed_of t) met → IsTooMany (named t.entries) met x
  item_again long are so b marked met before =
      let kept = subst (λ (l : List IndexEntry). IsPermutation (named l) met) (sym (filter_true (chosen t.hashed t.entries))) before in
      let has = met_one (λ (e : IndexEntry). true) (λ (e : IndexEntry). e.entry) t.hashed t.entries long [] met i at.0 b (slice_get_within t.entries i at.0 at.1) marked refl kept in
      met_before (named t.entries) met x (named_once t.entries are.once) (subst (Contains met) (ap (λ (e : IndexEntry). e.entry) item_here ∙ item_same so) has)

  pub item_first : length t.hashed ≡ length t.entries → r ≡ true → (b : Bool) → get_or t.hashed i b ≡ false → (met : List NamedEntry) → IsPermutation (hashed_of t) met
      → IsPermutation (named (chosen (set t.hashed i true) t.entries)) (met ++ x ∷ [])
  item_first long so b unset met before =
      let kept = subst (λ (l : List IndexEntry). IsPermutation (named l) met) (sym (filter_true (chosen t.hashed t.entries))) before in
      let more = marked_one (λ (e : IndexEntry). true) (λ (e : IndexEntry). e.entry) t.hashed t.entries long [] met i at.0 b (slice_get_within t.entries i at.0 at.1) unset refl kept in
      subst (λ (l : List IndexEntry). IsPermutation (named l) (met ++ x ∷ [])) (filter_true (chosen (set t.hashed i true) t.entries))
      (subst (λ (y : NamedEntry). IsPermutation (named (filter (λ (e : IndexEntry). true) (chosen (set t.hashed i true) t.entries))) (met ++ y ∷ [])) (ap (λ (e : IndexEntry). e.entry) item_here ∙ item_same so) more)

module _ (t : NamesMet) (long : length t.hashed ≡ length t.entries) (met : List NamedEntry) (before : IsPermutation (hashed_of t) met) where
  pub item_missing : (i : ℕ) (b : Bool) (dir : ℕ) → i < length t.entries → get_or t.hashed i b ≡ false → ((e : IndexEntry) → slice_get t.entries i ≡ Some e → dir ≡ e.entry.dir)
      → ¬ IsPermutation (entries_in dir (named t.entries)) (entries_in dir met)
  item_missing i b dir within unset dir_is =
      let d : IndexEntry = any_of t.entries i within in
      let p : NamedEntry → Bool = λ e. e.dir == dir in
      let here = dir_is (get_or t.entries i d) (slice_get-get_or t.entries i d within) in
      let less = short_of (λ (e : IndexEntry). true) (λ (e : IndexEntry). e.entry) p t.hashed t.entries i d b long within unset refl (eq-eqb (get_or t.entries i d).entry.dir dir (sym here)) in
      not_same p (named t.entries) (hashed_of t) met before
      (subst (λ (l : List IndexEntry). count_by p (named (chosen t.hashed t.entries)) < count_by p (named l)) (filter_true t.entries)
      (subst (λ (l : List IndexEntry). count_by p (named l) < count_by p (named (filter (λ (e : IndexEntry). true) t.entries))) (filter_true (chosen t.hashed t.entries)) less))

  pub items_met : ((k : ℕ) (b : Bool) → k < length t.entries → get_or t.hashed k b ≡ true) → IsPermutation (named t.entries) met
  items_met all =
      let same = sym (filter_true (chosen t.hashed t.entries)) ∙ (chosen_all (λ (e : IndexEntry). true) t.hashed t.entries long (λ i d e within passes. all i e within) ∙ filter_true t.entries) in
      subst (λ (l : List IndexEntry). IsPermutation (named l) met) same before

-- ---- references of inodes

pub own_again : (t : NamesMet) → t.own ≡ true → AreNames t.entries → (met : List BackName) → IsPermutation (told_of t) met → IsTooMany (given t.entries) met own_name
own_again t own are met before =
    met_before (given t.entries) met own_name (given_once t.entries are)
    (Contains-permutation (told_of t) met own_name before (subst (λ (b : Bool). Contains (own_names b ++ back_names (chosen t.told t.entries)) own_name) (sym own) (Contains-here own_name (back_names (chosen t.told t.entries)))))

pub own_first : (own : Bool) (rest met : List BackName) → own ≡ false → IsPermutation (own_names own ++ rest) met → IsPermutation (own_name ∷ rest) (met ++ own_name ∷ [])
own_first own rest met none before =
    let bare : IsPermutation rest met = subst (λ (b : Bool). IsPermutation (own_names b ++ rest) met) none before in
    IsPermutation-trans _ _ _ (IsPermutation-cons own_name rest met bare) (IsPermutation-sym _ _ (IsPermutation-to_front met own_name))

module _ (t : NamesMet) (x : BackName) (i : ℕ) (at : IsNamedAt t.entries x.dir x.name i) (r : Bool)
    (tells : Decides r ((names_inode_item at.0 ≡ true) × (at.0.entry.location.objectid ≡ x.inode) × (at.0.index ≡ x.index))) where
  pub name_other : AreNames t.entries → x ≢ own_name → r ≡ false → (met : List BackName) → IsTooMany (given t.entries) met x
  name_other are apart not_so met =
      absent (given t.entries) met x (not_given t.entries x apart
      (other_name t.entries are.once x i at (λ is. true≢false (sym (tells.1 (is.0, ap (λ (n : BackName). n.inode) is.1, ap (λ (n : BackName). n.index) is.1)) ∙ not_so))))

  name_same : r ≡ true → back_name at.0 ≡ x
  name_same so = same_name (back_name at.0) x (tells.0 so).1 at.2.0 (tells.0 so).2 at.2.1

  name_here : get_or t.entries i at.0 ≡ at.0
  name_here = get_or_from_slice_get t.entries i at.0 at.0 at.1

  name_passes : r ≡ true → names_inode_item (get_or t.entries i at.0) ≡ true
  name_passes so = ap names_inode_item name_here ∙ (tells.0 so).0

  pub name_again : length t.told ≡ length t.entries → AreNames t.entries → r ≡ true → (b : Bool) → get_or t.told i b ≡ true → (met : List BackName) → IsPermutation (told_of t) met → IsTooMany (given t.entries) met x
  name_again long are so b marked met before =
      let has = met_one names_inode_item back_name t.told t.entries long (own_names t.own) met i at.0 b (slice_get_within t.entries i at.0 at.1) marked (name_passes so) before in
      met_before (given t.entries) met x (given_once t.entries are) (subst (Contains met) (ap back_name name_here ∙ name_same so) has)

  pub name_first : length t.told ≡ length t.entries → r ≡ true → (b : Bool) → get_or t.told i b ≡ false → (met : List BackName) → IsPermutation (told_of t) met
      → IsPermutation (own_names t.own ++ back_names (chosen (set t.told i true) t.entries)) (met ++ x ∷ [])
  name_first long so b unset met before =
      subst (λ (y : BackName). IsPermutation (own_names t.own ++ back_names (chosen (set t.told i true) t.entries)) (met ++ y ∷ [])) (ap back_name name_here ∙ name_same so)
      (marked_one names_inode_item back_name t.told t.entries long (own_names t.own) met i at.0 b (slice_get_within t.entries i at.0 at.1) unset (name_passes so) before)

own_count : (p : BackName → Bool) (b : Bool) (rest : List BackName) → count_by p (own_names b ++ rest) ≤ count_by p (own_name ∷ rest)
own_count p true rest = omega arith
own_count p false rest = omega (arith, sum_by-cons (λ n. cond (p n) 1 0) own_name rest)

module _ (t : NamesMet) (long : length t.told ≡ length t.entries) (met : List BackName) (before : IsPermutation (told_of t) met) where
  pub own_missing : t.own ≡ false → ¬ IsPermutation (names_of FIRST_FREE_OBJECTID (given t.entries)) (names_of FIRST_FREE_OBJECTID met)
  own_missing none =
      let p : BackName → Bool = λ n. n.inode == FIRST_FREE_OBJECTID in
      let bare : count_by p (told_of t) ≡ count_by p (back_names (chosen t.told t.entries)) = ap (λ (b : Bool). count_by p (own_names b ++ back_names (chosen t.told t.entries))) none in
      let all : count_by p (given t.entries) ≡ 1 + count_by p (back_names t.entries) = sum_by-cons (λ n. cond (p n) 1 0) own_name (back_names t.entries) in
      let less = no_more names_inode_item back_name p t.told t.entries in
      not_same p (given t.entries) (told_of t) met before (omega (arith, bare, all, less))

  pub name_missing : (i : ℕ) (b : Bool) (location : Key) → i < length t.entries → get_or t.told i b ≡ false → ((e : IndexEntry) → slice_get t.entries i ≡ Some e → location ≡ e.entry.location)
      → ((location.kind == INODE_ITEM) && (location.offset == 0)) ≡ true → ¬ IsPermutation (names_of location.objectid (given t.entries)) (names_of location.objectid met)
  name_missing i b location within unset location_is passes =
      let d : IndexEntry = any_of t.entries i within in
      let p : BackName → Bool = λ n. n.inode == location.objectid in
      let here = location_is (get_or t.entries i d) (slice_get-get_or t.entries i d within) in
      let inode : names_inode_item (get_or t.entries i d) ≡ true = subst (λ (l : Key). ((l.kind == INODE_ITEM) && (l.offset == 0)) ≡ true) here passes in
      let own : p (back_name (get_or t.entries i d)) ≡ true = eq-eqb (get_or t.entries i d).entry.location.objectid location.objectid (ap (λ (l : Key). l.objectid) (sym here)) in
      let less = short_of names_inode_item back_name p t.told t.entries i d b long within unset inode own in
      let most = own_count p t.own (back_names (chosen t.told t.entries)) in
      let some = sum_by-cons (λ n. cond (p n) 1 0) own_name (back_names (chosen t.told t.entries)) in
      let all = sum_by-cons (λ n. cond (p n) 1 0) own_name (back_names t.entries) in
      not_same p (given t.entries) (told_of t) met before (omega (arith, most, some, all, less))

  pub names_met : t.own ≡ true → ((k : ℕ) (e : IndexEntry) (b : Bool) → k < length t.entries → names_inode_item (get_or t.entries k e) ≡ true → get_or t.told k b ≡ true) → IsPermutation (given t.entries) met
  names_met own all =
      let same = chosen_all names_inode_item t.told t.entries long (λ i d e within passes. all i d e within passes) in
      subst (λ (l : List IndexEntry). IsPermutation (own_name ∷ map back_name l) met) same
      (subst (λ (b : Bool). IsPermutation (own_names b ++ back_names (chosen t.told t.entries)) met) own before)

-- the step over an entry that was met, or names no inode
pub name_over : (t : NamesMet) → length t.told ≡ length t.entries → (i : ℕ) (b : Bool) → i < length t.entries → get_or t.told i b ≡ true
    → (e : IndexEntry) (d : Bool) → names_inode_item (get_or t.entries i e) ≡ true → get_or t.told i d ≡ true
name_over t long i b within marked e d passes = get_or_any t.told i b d (omega arith) ∙ marked

pub no_inode : (t : NamesMet) (i : ℕ) (location : Key) → i < length t.entries → ((e : IndexEntry) → slice_get t.entries i ≡ Some e → location ≡ e.entry.location) → ((location.kind == INODE_ITEM) && (location.offset == 0)) ≡ false
    → (e : IndexEntry) (d : Bool) → names_inode_item (get_or t.entries i e) ≡ true → get_or t.told i d ≡ true
no_inode t i location within location_is none e d passes =
    let here = location_is (get_or t.entries i e) (slice_get-get_or t.entries i e within) in
    absurd (true≢false (sym (subst (λ (l : Key). ((l.kind == INODE_ITEM) && (l.offset == 0)) ≡ true) (sym here) passes) ∙ none))
