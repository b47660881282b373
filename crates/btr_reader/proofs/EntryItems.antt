-- An entry found as the items go by.
use Rattle.btr_reader.proofs.Imports.{◌≡◌, ℕ, Bool, true, false, ◌&&◌, eqb, List, [], ◌∷◌, ◌++◌, Option, Some, if◌then◌else◌, refl, sym, ◌∙◌, ap, subst, append_assoc, append-nil, BtrAnswer, BtrRefusal, Key, TreeItem, none_both, first_key, entry_named, own_index_refusals, index_refusals, DirIndex, own_naming, dir_indexes, IsAmong}
use Rattle.btr_reader.proofs.Among.{among_left, among_right}

pub namings-append : (xs ys : List TreeItem) → dir_indexes (xs ++ ys) ≡ dir_indexes xs ++ dir_indexes ys
namings-append [] ys = refl
namings-append (i ∷ xs) ys = ap (λ (z : List DirIndex). own_naming i ++ z) (namings-append xs ys) ∙ sym (append_assoc (own_naming i) (dir_indexes xs) (dir_indexes ys))

either_way : (t : Bool) (key : Key) (later earlier second : Option Key) → later ≡ first_key earlier second → (if t then Some key else later) ≡ first_key (if t then Some key else earlier) second
either_way true key later earlier second is = refl
either_way false key later earlier second is = is

entry_named-append : (test : List ℕ → Bool) (xs ys : List DirIndex) → entry_named test (xs ++ ys) ≡ first_key (entry_named test xs) (entry_named test ys)
entry_named-append test [] ys = refl
entry_named-append test (n ∷ xs) ys = either_way (eqb n.dir 256 && test n.name) n.location (entry_named test (xs ++ ys)) (entry_named test xs) (entry_named test ys) (entry_named-append test xs ys)

pub entry_push : (test : List ℕ → Bool) (xs : List TreeItem) (i : TreeItem) → entry_named test (dir_indexes (xs ++ i ∷ [])) ≡ first_key (entry_named test (dir_indexes xs)) (entry_named test (own_naming i))
entry_push test xs i =
    ap (entry_named test) (namings-append xs (i ∷ []))
    ∙ (entry_named-append test (dir_indexes xs) (own_naming i ++ []) ∙ ap (λ (z : List DirIndex). first_key (entry_named test (dir_indexes xs)) (entry_named test z)) (append-nil (own_naming i)))

index_refusals-append : (xs ys : List TreeItem) → index_refusals (xs ++ ys) ≡ index_refusals xs ++ index_refusals ys
index_refusals-append [] ys = refl
index_refusals-append (i ∷ xs) ys =
    ap (λ (z : List BtrRefusal). own_index_refusals i ++ z) (index_refusals-append xs ys) ∙ sym (append_assoc (own_index_refusals i) (index_refusals xs) (index_refusals ys))

pub index_right : (given : List TreeItem) (i : TreeItem) → index_refusals given ≡ [] → own_index_refusals i ≡ [] → index_refusals (given ++ i ∷ []) ≡ []
index_right given i none own = index_refusals-append given (i ∷ []) ∙ none_both (index_refusals given) _ none (none_both (own_index_refusals i) [] own refl)

pub index_refused : (all given later : List TreeItem) (i : TreeItem) (e : BtrAnswer) → all ≡ (given ++ i ∷ []) ++ later → IsAmong (own_index_refusals i) e → IsAmong (index_refusals all) e
index_refused all given later i e parts bad =
    let first : IsAmong (index_refusals (given ++ i ∷ [])) e =
    subst (λ (z : List BtrRefusal). IsAmong z e) (sym (index_refusals-append given (i ∷ []))) (among_right (index_refusals given) (own_index_refusals i ++ []) e (among_left (own_index_refusals i) [] e bad)) in
    subst (λ (z : List BtrRefusal). IsAmong z e) (sym (ap index_refusals parts ∙ index_refusals-append (given ++ i ∷ []) later))
    (among_left (index_refusals (given ++ i ∷ [])) _ e first)
