-- The root item of a tree, found as the items go by.
use Rattle.btr_reader.proofs.Imports.{◌≡◌, ℕ, nat_eq, Bool, true, false, ◌&&◌, ◌||◌, eqb, List, [], ◌∷◌, ◌++◌, Option, Some, None, if◌then◌else◌, refl, sym, ◌∙◌, ap, subst, ROOT_ITEM, contains, Key, TreeItem, is_root_of, RootItems, last_or, root_item, pointer_of, TellsRoot, HasRoots, found_root}
use Rattle.btr_reader_names.proofs.Walking.{root_push, root_other, root_own}
use Rattle.btr_reader.specs.declared.roots.RootFound.{RootFound}

abbrev here : ℕ → TreeItem → Option TreeItem
here number i = if is_root_of number i then Some i else None

last_or-assoc : (a b c : Option TreeItem) → last_or (last_or a b) c ≡ last_or a (last_or b c)
last_or-assoc None b c = refl
last_or-assoc (Some i) b c = refl

refl_or : (a : Option TreeItem) → last_or None a ≡ last_or a None
refl_or None = refl
refl_or (Some i) = refl

pub root_item-push : (number : ℕ) (xs : List TreeItem) (i : TreeItem) → root_item number (xs ++ i ∷ []) ≡ last_or (here number i) (root_item number xs)
root_item-push number [] i = refl_or (here number i)
root_item-push number (x ∷ xs) i =
    ap (λ (o : Option TreeItem). last_or o (here number x)) (root_item-push number xs i) ∙ last_or-assoc (here number i) (root_item number xs) (here number x)

-- the last root item with this number is a new one, or stays
chosen : (own : Bool) (i : TreeItem) (root : RootFound) (old : Option RootFound) (before : Option TreeItem) → root.leaf ≡ i.leaf → root.pointer ≡ pointer_of i.body → TellsRoot old before
    → TellsRoot (if own then Some root else old) (last_or (if own then Some i else None) before)
chosen true i root old before leaf pointer tells = (leaf, pointer)
chosen false i root old before leaf pointer tells = tells

and_true : (b : Bool) → (b && true) ≡ b
and_true true = refl
and_true false = refl

and_false : (b : Bool) → (b && false) ≡ false
and_false true = refl
and_false false = refl

own_each : (number : ℕ) (items : List TreeItem) (i : TreeItem) (root : RootFound) (old now : Option RootFound) → eqb i.key.kind ROOT_ITEM ≡ true → root.leaf ≡ i.leaf → root.pointer ≡ pointer_of i.body
    → now ≡ (if nat_eq i.key.objectid number then Some root else old) → TellsRoot old (root_item number items) → TellsRoot now (root_item number (items ++ i ∷ []))
own_each number items i root old now kind leaf pointer is tells =
    let own : is_root_of number i ≡ nat_eq i.key.objectid number = ap (λ (b : Bool). eqb i.key.objectid number && b) kind ∙ and_true (eqb i.key.objectid number) in
    subst (λ (o : Option RootFound). TellsRoot o (root_item number (items ++ i ∷ []))) (sym is)
    (subst (TellsRoot (if nat_eq i.key.objectid number then Some root else old)) (sym (root_item-push number items i))
    (subst (λ (b : Bool). TellsRoot (if nat_eq i.key.objectid number then Some root else old) (last_or (if b then Some i else None) (root_item number items))) (sym own)
    (chosen (nat_eq i.key.objectid number) i root old (root_item number items) leaf pointer tells)))

other_each : (number : ℕ) (items : List TreeItem) (i : TreeItem) (told : Option RootFound) → eqb i.key.kind ROOT_ITEM ≡ false → TellsRoot told (root_item number items)
    → TellsRoot told (root_item number (items ++ i ∷ []))
other_each number items i told kind tells =
    let other : is_root_of number i ≡ false = ap (λ (b : Bool). eqb i.key.objectid number && b) kind ∙ and_false (eqb i.key.objectid number) in
    subst (TellsRoot told) (sym (root_item-push number items i))
    (subst (λ (b : Bool). TellsRoot told (last_or (if b then Some i else None) (root_item number items))) (sym other) tells)

-- an item of another kind is passed over
pub passed_over : (t : RootItems) (items : List TreeItem) (i : TreeItem) (kind : ℕ) → i.key.kind ≡ kind → eqb kind ROOT_ITEM ≡ false → HasRoots t items → HasRoots t (items ++ i ∷ [])
passed_over t items i kind is other k =
    let off : eqb i.key.kind ROOT_ITEM ≡ false = ap (λ (n : ℕ). eqb n 132) is ∙ other in
    record {
      each = λ number. other_each number items i (found_root t number) off (k.each number);
      numbers = λ number. root_other number (contains nat_eq t.numbers number) i off ∙ root_push number (contains nat_eq t.numbers number) items i (k.numbers number);
    }

-- a root item is noted
pub noted : (before now : RootItems) (items : List TreeItem) (i : TreeItem) (key : Key) (root : RootFound) → i.key ≡ key → eqb key.kind ROOT_ITEM ≡ true → root.leaf ≡ i.leaf → root.pointer ≡ pointer_of i.body
    → ((number : ℕ) → found_root now number ≡ (if nat_eq key.objectid number then Some root else found_root before number))
    → ((number : ℕ) → contains nat_eq now.numbers number ≡ (nat_eq key.objectid number || contains nat_eq before.numbers number)) → HasRoots before items → HasRoots now (items ++ i ∷ [])
noted before now items i key root is own leaf pointer found numbers k =
    let kind : eqb i.key.kind ROOT_ITEM ≡ true = ap (λ (y : Key). eqb y.kind ROOT_ITEM) is ∙ own in
    record {
      each = λ number.
          own_each number items i root (found_root before number) (found_root now number) kind leaf pointer
          (found number ∙ ap (λ (y : Key). if nat_eq y.objectid number then Some root else found_root before number) (sym is)) (k.each number);
      numbers = λ number.
          root_own number (contains nat_eq before.numbers number) (contains nat_eq now.numbers number) i kind
          (numbers number ∙ ap (λ (y : Key). nat_eq y.objectid number || contains nat_eq before.numbers number) (sym is))
          ∙ root_push number (contains nat_eq before.numbers number) items i (k.numbers number);
    }
