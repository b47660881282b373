-- The names of a root directory that were seen, and what is refused of them.
use Rattle.btr_reader.proofs.Imports.{◌≡◌, ℕ, suc, ◌==◌, Bool, true, false, ◌&&◌, nat_eq, List, [], ◌∷◌, ◌++◌, map, filter, Contains, AllPairs, Option, Some, None, Result, Ok, Err, IfErr, if◌then◌else◌, ⊎_elim, refl, sym, ap, subst, ◌∙◌, arith, MatchResult, eqb-true, and_parts, nat_tests, append-nil, Contains-append_left, Contains-append_right, Contains-append_cases, IndexSet, BtrAnswer, Refused, Fault, Memory, BtrRefusal, BadBtrfs, NameForm, DirEntryValue, TreeItem, none_both, at_head, head_or_tail, in_map, in_filter, from_map, from_filter, same_name-true, DirIndex, is_index, index_entry, naming_of, naming_at, own_naming, dir_indexes, DifferInName, HasSeen, BlamesTwice, closed_more, is_root_directory, is_again, naming_refusals, index_refusals_at, own_index_refusals, twice_refusals, index_refusals, root_refusals, IsAmong}
use Rattle.std.proofs.Common.{OnOk}
use Rattle.std.specs.Cmp.Lexicographic.{pointwise}
use Rattle.btr_reader_names.specs.declared.seen.NameIn.{NameIn}
use Rattle.btr_reader.proofs.Among.{among_right}
use Rattle.btr_reader.proofs.EntryItems.{namings-append, index_refused}

abbrev bad_name : DirIndex → BtrRefusal
bad_name n = BadBtrfs n.leaf NameForm

eq-self : (n : ℕ) → (n == n) ≡ true
eq-self n = grind (arith, nat_tests)

pointwise_self : (xs : List ℕ) → pointwise nat_eq xs xs ≡ true
pointwise_self [] = refl
pointwise_self (x ∷ xs) = ap (λ (b : Bool). b && pointwise nat_eq xs xs) (eq-self x) ∙ pointwise_self xs

-- a list without members is empty
no_members : {X : Type 0} (xs : List X) → ((x : X) → ¬ Contains xs x) → xs ≡ []
no_members [] none = refl
no_members (x ∷ xs) none = absurd (none x (at_head x xs))

-- two entries of one name in the root directory
again : (m n : DirIndex) → is_root_directory n.dir ≡ true → m.dir ≡ n.dir → m.name ≡ n.name → is_again m n ≡ true
again m n root dir name =
    ap (λ (b : Bool). b && ((m.dir == n.dir) && pointwise nat_eq m.name n.name)) root
    ∙ (ap (λ (k : ℕ). (k == n.dir) && pointwise nat_eq m.name n.name) dir
    ∙ (ap (λ (b : Bool). b && pointwise nat_eq m.name n.name) (eq-self n.dir) ∙ (ap (λ (l : List ℕ). pointwise nat_eq l n.name) name ∙ pointwise_self n.name)))

differ : (m n : DirIndex) → DifferInName is_root_directory m n → ¬ (is_again m n ≡ true)
differ m n apart is =
    let parts = and_parts (is_root_directory n.dir) ((m.dir == n.dir) && pointwise nat_eq m.name n.name) is in
    let more = and_parts (m.dir == n.dir) (pointwise nat_eq m.name n.name) parts.1 in
    apart parts.0 (eqb-true m.dir n.dir more.0) (same_name-true m.name n.name more.1)

-- no name is refused where none is there twice
pub none_twice : (ns : List DirIndex) → AllPairs (DifferInName is_root_directory) ns → twice_refusals ns ≡ []
none_twice [] all = refl
none_twice (m ∷ ns) all =
    none_both (map bad_name (filter (is_again m) ns)) (twice_refusals ns)
    (ap (map bad_name) (no_members (filter (is_again m) ns) (λ n among.
    let k = from_filter (is_again m) ns n among in
    differ m n (subst (DifferInName is_root_directory m) k.0.2 (all 0 (suc k.0.0) n (omega arith) (omega (arith, k.0.1)))) k.1)))
    (none_twice ns (λ i j d before within. all (suc i) (suc j) d (omega (arith, before)) (omega (arith, within))))

twice_at : (before after : List DirIndex) (m n : DirIndex) → Contains before m → is_again m n ≡ true → Contains (twice_refusals (before ++ n ∷ after)) (bad_name n)
twice_at [] after m n among is = absurd (omega (arith, among.1))
twice_at (x ∷ xs) after m n among is =
    ⊎_elim
    (λ first. Contains-append_left (map bad_name (filter (is_again x) (xs ++ n ∷ after))) (twice_refusals (xs ++ n ∷ after)) (bad_name n)
    (in_map bad_name (filter (is_again x) (xs ++ n ∷ after)) n
    (in_filter (is_again x) (xs ++ n ∷ after) n (Contains-append_right xs (n ∷ after) n (at_head n after)) (ap (λ (y : DirIndex). is_again y n) first ∙ is))))
    (λ later. Contains-append_right (map bad_name (filter (is_again x) (xs ++ n ∷ after))) (twice_refusals (xs ++ n ∷ after)) (bad_name n) (twice_at xs after m n later is)) (head_or_tail x xs m among)

pub blames_twice : (ns : List DirIndex) (e : BtrAnswer) → BlamesTwice is_root_directory ns e → IsAmong (twice_refusals ns) e
blames_twice ns (Refused r) (m, (n, a, root, dir, name, is)) =
    subst (Contains (twice_refusals ns)) (sym is) (subst (λ (l : List DirIndex). Contains (twice_refusals l) (bad_name n)) (sym a.split) (twice_at a.before a.after m n a.earlier (again m n root dir name)))
blames_twice ns Fault h = tt
blames_twice ns Memory h = tt

-- what is refused of the first entries is refused of all
twice_more : (ns more : List DirIndex) (r : BtrRefusal) → Contains (twice_refusals ns) r → Contains (twice_refusals (ns ++ more)) r
twice_more [] more r among = absurd (omega (arith, among.1))
twice_more (m ∷ ns) more r among =
    ⊎_elim
    (λ here.
    let a = from_map bad_name (filter (is_again m) ns) r here in
    let b = from_filter (is_again m) ns a.0 a.1 in
    Contains-append_left (map bad_name (filter (is_again m) (ns ++ more))) (twice_refusals (ns ++ more)) r
    (subst (Contains (map bad_name (filter (is_again m) (ns ++ more)))) a.2
    (in_map bad_name (filter (is_again m) (ns ++ more)) a.0 (in_filter (is_again m) (ns ++ more) a.0 (Contains-append_left ns more a.0 b.0) b.1))))
    (λ later. Contains-append_right (map bad_name (filter (is_again m) (ns ++ more))) (twice_refusals (ns ++ more)) r (twice_more ns more r later))
    (Contains-append_cases (map bad_name (filter (is_again m) ns)) (twice_refusals ns) r among)

pub root_refused : (all given later : List TreeItem) (i : TreeItem) (e : BtrAnswer) → all ≡ (given ++ i ∷ []) ++ later → IsAmong (own_index_refusals i ++ twice_refusals (dir_indexes (given ++ i ∷ []))) e
    → IsAmong (root_refusals all) e
root_refused all given later i (Refused r) parts among =
    let so_far : List TreeItem = given ++ i ∷ [] in
    ⊎_elim (λ own. Contains-append_left (index_refusals all) (twice_refusals (dir_indexes all)) r (index_refused all given later i (Refused r) parts own))
    (λ twice. Contains-append_right (index_refusals all) (twice_refusals (dir_indexes all)) r
    (subst (λ (ns : List DirIndex). Contains (twice_refusals ns) r) (sym (ap dir_indexes parts ∙ namings-append so_far later)) (twice_more (dir_indexes so_far) (dir_indexes later) r twice)))
    (Contains-append_cases (own_index_refusals i) (twice_refusals (dir_indexes so_far)) r among)
root_refused all given later i Fault parts among = tt
root_refused all given later i Memory parts among = tt

one_item : (given : List TreeItem) (i : TreeItem) → dir_indexes (given ++ i ∷ []) ≡ dir_indexes given ++ own_naming i
one_item given i = namings-append given (i ∷ []) ∙ ap (λ (ns : List DirIndex). dir_indexes given ++ ns) (append-nil (own_naming i))

-- an item that is no entry of the root directory
module _ {S : Type 0} (names : IndexSet NameIn S) where
  over_at : (seen : List DirIndex) (i : TreeItem) (o : Option DirEntryValue) (index : Bool) → (index && is_root_directory i.key.objectid) ≡ false → HasSeen is_root_directory names seen
      → HasSeen is_root_directory names (seen ++ (if index then naming_at i o else []))
  over_at seen i o false other has = subst (HasSeen is_root_directory names) (sym (append-nil seen)) has
  over_at seen i None true other has = subst (HasSeen is_root_directory names) (sym (append-nil seen)) has
  over_at seen i (Some e) true other has = closed_more is_root_directory names names seen (naming_of i e) has other

  pub passed_over : (given : List TreeItem) (i : TreeItem) → (is_index i && is_root_directory i.key.objectid) ≡ false → HasSeen is_root_directory names (dir_indexes given)
      → HasSeen is_root_directory names (dir_indexes (given ++ i ∷ []))
  passed_over given i other has =
      subst (HasSeen is_root_directory names) (sym (one_item given i)) (over_at (dir_indexes given) i (index_entry i.body) (is_index i) other has)

-- an item that is one
module _ (i : TreeItem) (e : DirEntryValue) (index : is_index i ≡ true) (is : index_entry i.body ≡ Some e) where
  pub entry_more : (given : List TreeItem) → dir_indexes (given ++ i ∷ []) ≡ dir_indexes given ++ naming_of i e ∷ []
  entry_more given =
      one_item given i ∙ ap (λ (ns : List DirIndex). dir_indexes given ++ ns) (ap (λ (b : Bool). if b then naming_at i (index_entry i.body) else []) index ∙ ap (naming_at i) is)

  pub own_entry : is_root_directory i.key.objectid ≡ true → own_index_refusals i ≡ naming_refusals (naming_of i e)
  own_entry root =
      ap (λ (b : Bool). if b && is_root_directory i.key.objectid then index_refusals_at i (index_entry i.body) else []) index
      ∙ (ap (λ (b : Bool). if b then index_refusals_at i (index_entry i.body) else []) root ∙ ap (index_refusals_at i) is)

  -- as the entry was read
  module _ (root : is_root_directory i.key.objectid ≡ true) (n : DirIndex) (naming : n ≡ naming_of i e) where
    pub right_entry : naming_refusals n ≡ [] → own_index_refusals i ≡ []
    right_entry none = own_entry root ∙ (ap naming_refusals (sym naming) ∙ none)

    pub in_root : is_root_directory n.dir ≡ true
    in_root = ap (λ (m : DirIndex). is_root_directory m.dir) naming ∙ root

    pub with_entry : (given : List TreeItem) → dir_indexes given ++ n ∷ [] ≡ dir_indexes (given ++ i ∷ [])
    with_entry given = ap (λ (m : DirIndex). dir_indexes given ++ m ∷ []) naming ∙ sym (entry_more given)

    pub refused_entry : (given : List TreeItem) → naming_refusals n ++ twice_refusals (dir_indexes given ++ n ∷ []) ≡ own_index_refusals i ++ twice_refusals (dir_indexes (given ++ i ∷ []))
    refused_entry given =
        ap (λ (z : List BtrRefusal). z ++ twice_refusals (dir_indexes given ++ n ∷ [])) (ap naming_refusals naming ∙ sym (own_entry root))
        ∙ ap (λ (ns : List DirIndex). own_index_refusals i ++ twice_refusals ns) (with_entry given)

-- what is answered of one more name
pub match_on : (P : Type 0) (Q : BtrAnswer → Type 0) (result : Result (Unit {0}) BtrAnswer) → MatchResult result (λ _. P) Q → OnOk result P
match_on P Q (Ok done) h = h
match_on P Q (Err e) h = tt

pub twice_refused : (P : Type 0) (result : Result (Unit {0}) BtrAnswer) (n : DirIndex) (before : List DirIndex) → MatchResult result (λ _. P) (BlamesTwice is_root_directory (before ++ n ∷ []))
    → IfErr result (IsAmong (naming_refusals n ++ twice_refusals (before ++ n ∷ [])))
twice_refused P (Ok done) n before h = tt
twice_refused P (Err e) n before h = among_right (naming_refusals n) (twice_refusals (before ++ n ∷ [])) e (blames_twice (before ++ n ∷ []) e h)
