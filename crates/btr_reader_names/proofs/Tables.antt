-- The table of names, with one more item.
use Rattle.btr_reader_names.proofs.Imports.{◌≡◌, ℕ, ◌==◌, Bool, true, false, ◌&&◌, List, [], ◌∷◌, ◌++◌, Option, Some, None, unwrap_or, if◌then◌else◌, refl, sym, ◌∙◌, ap, subst, append_assoc, eqb-true, append-nil, INODE_ITEM, inode_of, TreeItem, InodeFound, DirIndex, OffForm, is_inode_of, find_inode_item, first_item, TellsInode, own_naming, dir_indexes, own_off_form, off_forms, AreNoted}
use Rattle.btr_reader_names.proofs.InodeItems.{inode_item-push}

and_false_right : (a b : Bool) → b ≡ false → (a && b) ≡ false
and_false_right true b is = is
and_false_right false b is = refl

not_first : (f : Option InodeFound) (before : Option TreeItem) → TellsInode f before → TellsInode f (first_item before None)
not_first f None h = h
not_first f (Some j) h = h

-- an item that is none of an inode
pub passed_over : (told : ℕ → Option InodeFound) (items : List TreeItem) (i : TreeItem) → ((i.key.kind == INODE_ITEM) && (i.key.offset == 0)) ≡ false → AreNoted told items → AreNoted told (items ++ i ∷ [])
passed_over told items i other noted ino =
    let own : is_inode_of ino i ≡ false = and_false_right (i.key.objectid == ino) ((i.key.kind == INODE_ITEM) && (i.key.offset == 0)) other in
    subst (TellsInode (told ino)) (sym (inode_item-push ino items i ∙ ap (λ (b : Bool). first_item (find_inode_item items ino) (if b then Some i else None)) own))
    (not_first (told ino) (find_inode_item items ino) (noted ino))

-- the first item of an inode, or a later one
own_first : (old : Option InodeFound) (before : Option TreeItem) (f : InodeFound) (i : TreeItem) → f.leaf ≡ i.leaf → f.inode ≡ inode_of i.body → TellsInode old before → TellsInode (Some (unwrap_or old f)) (first_item before (Some i))
own_first None None f i leaf body h = (leaf, body)
own_first None (Some j) f i leaf body h = absurd h
own_first (Some g) None f i leaf body h = absurd h
own_first (Some g) (Some j) f i leaf body h = h

pub noted_first : (old new : ℕ → Option InodeFound) (items : List TreeItem) (i : TreeItem) (f : InodeFound) → ((i.key.kind == INODE_ITEM) && (i.key.offset == 0)) ≡ true → f.leaf ≡ i.leaf → f.inode ≡ inode_of i.body
    → ((ino : ℕ) → new ino ≡ (if i.key.objectid == ino then Some (unwrap_or (old i.key.objectid) f) else old ino)) → AreNoted old items → AreNoted new (items ++ i ∷ [])
noted_first old new items i f kind leaf body updates noted ino = by (i.key.objectid == ino) refl
  where
    push : (b : Bool) → (i.key.objectid == ino) ≡ b → find_inode_item (items ++ i ∷ []) ino ≡ first_item (find_inode_item items ino) (if b then Some i else None)
    push b is =
        inode_item-push ino items i
        ∙ (ap (λ (t : Bool). first_item (find_inode_item items ino) (if (i.key.objectid == ino) && t then Some i else None)) kind ∙ ap (λ (t : Bool). first_item (find_inode_item items ino) (if t then Some i else None)) (same (i.key.objectid == ino) ∙ is))
      where
        same : (t : Bool) → (t && true) ≡ t
        same true = refl
        same false = refl

    by : (b : Bool) → (i.key.objectid == ino) ≡ b → TellsInode (new ino) (find_inode_item (items ++ i ∷ []) ino)
    by true is =
        let number : i.key.objectid ≡ ino = eqb-true i.key.objectid ino is in
        let now = updates ino ∙ (ap (λ (t : Bool). if t then Some (unwrap_or (old i.key.objectid) f) else old ino) is ∙ ap (λ (n : ℕ). Some (unwrap_or (old n) f)) number) in
        subst (λ (o : Option InodeFound). TellsInode o (find_inode_item (items ++ i ∷ []) ino)) (sym now)
        (subst (TellsInode (Some (unwrap_or (old ino) f))) (sym (push true is)) (own_first (old ino) (find_inode_item items ino) f i leaf body (noted ino)))
    by false is =
        let now = updates ino ∙ ap (λ (t : Bool). if t then Some (unwrap_or (old i.key.objectid) f) else old ino) is in
        subst (λ (o : Option InodeFound). TellsInode o (find_inode_item (items ++ i ∷ []) ino)) (sym now)
        (subst (TellsInode (old ino)) (sym (push false is)) (not_first (old ino) (find_inode_item items ino) (noted ino)))

-- the entries of more items
pub namings-append : (xs ys : List TreeItem) → dir_indexes (xs ++ ys) ≡ dir_indexes xs ++ dir_indexes ys
namings-append [] ys = refl
namings-append (i ∷ xs) ys = ap (λ (z : List DirIndex). own_naming i ++ z) (namings-append xs ys) ∙ sym (append_assoc (own_naming i) (dir_indexes xs) (dir_indexes ys))

pub namings-push : (xs : List TreeItem) (i : TreeItem) → dir_indexes (xs ++ i ∷ []) ≡ dir_indexes xs ++ own_naming i
namings-push xs i = namings-append xs (i ∷ []) ∙ ap (λ (z : List DirIndex). dir_indexes xs ++ z) (append-nil (own_naming i))

off_forms-append : (xs ys : List TreeItem) → off_forms (xs ++ ys) ≡ off_forms xs ++ off_forms ys
off_forms-append [] ys = refl
off_forms-append (i ∷ xs) ys = ap (λ (z : List OffForm). own_off_form i ++ z) (off_forms-append xs ys) ∙ sym (append_assoc (own_off_form i) (off_forms xs) (off_forms ys))

pub off_forms-push : (xs : List TreeItem) (i : TreeItem) → off_forms (xs ++ i ∷ []) ≡ off_forms xs ++ own_off_form i
off_forms-push xs i = off_forms-append xs (i ∷ []) ∙ ap (λ (z : List OffForm). off_forms xs ++ z) (append-nil (own_off_form i))
