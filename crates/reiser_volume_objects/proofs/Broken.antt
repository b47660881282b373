-- Each refusal names a rule that fails.
use Rattle.reiser_volume_objects.proofs.Imports.{◌≡◌, ℕ, ◌<◌, List, ◌∷◌, ◌++◌, length, get_or, suc, Option, Some, None, refl, sym, ap, subst, ◌∙◌, true≢false, length-append, arith, get_or_append_left, get_or_at, list_any-from_Any, VolumeRefusal, Kind, ReiserItem, is_save_link, ObjectKey, ObjectStat, SharesByte, AreItemsApart, IsOverlap, fits_kind, items_of, kind_of_mode, fits_size, AreObjects, IsObject, IsKnownObject, IsObjectsRefusal, save_link, no_root, other_root, no_stat, unknown_kind, other_items, overlap, size_range}

-- one value is there
pub some_same : {A : Type 0} (o : Option A) (x y : A) → o ≡ Some x → o ≡ Some y → x ≡ y
some_same o x y a b = let e : Some x ≡ Some y = sym a ∙ b in cc

not_both : {A : Type 0} (o : Option A) (x : A) → o ≡ Some x → o ≡ None → ⊥
not_both o x a b = let e : Some x ≡ None = sym a ∙ b in cc

-- items that do not overlap have no overlap
apart_none : (items : List ReiserItem) (leaf : ℕ) → AreItemsApart items → IsOverlap items leaf → ⊥
apart_none items leaf apart o =
    let k : ℕ = o.among.0 in
    let within : k < length o.before = o.among.1 in
    let size : length items ≡ length (o.before ++ (o.later ∷ o.after)) = ap length o.split in
    let first : get_or items k o.earlier ≡ o.earlier = ap (λ (l : List ReiserItem). get_or l k o.earlier) o.split ∙ (get_or_append_left o.before (o.later ∷ o.after) o.earlier k within ∙ o.among.2) in
    let second : get_or items (length o.before) o.earlier ≡ o.later = ap (λ (l : List ReiserItem). get_or l (length o.before) o.earlier) o.split ∙ get_or_at o.before o.later o.after o.earlier (length o.before) refl in
    apart k (length o.before) o.earlier within (omega (arith, size, length-append o.before (o.later ∷ o.after)))
    (subst (λ (i : ReiserItem). SharesByte i (get_or items (length o.before) o.earlier)) (sym first) (subst (SharesByte o.earlier) (sym second) o.shares))

-- the kind of a known object is that of the object
same_kind : (items : List ReiserItem) (key : ObjectKey) (stat : ObjectStat) (kind : Kind) (o : IsObject items key) → IsKnownObject items key stat kind → (stat ≡ o.stat) × (kind ≡ o.kind)
same_kind items key stat kind o k =
    let stats : stat ≡ o.stat = some_same _ stat o.stat k.has_stat o.has_stat in
    (stats, some_same _ kind o.kind k.known (ap (λ (s : ObjectStat). kind_of_mode s.fields.mode) stats ∙ o.known))

pub broken : (root_block : ℕ) (items : List ReiserItem) (r : VolumeRefusal) → IsObjectsRefusal root_block items r → AreObjects items → ⊥
broken root_block items r (save_link i among is refused) a =
    true≢false (sym (list_any-from_Any (λ x. is_save_link x.head) items (among.0, i, among.1, among.2, is)) ∙ a.no_save_link)
broken root_block items r (no_root none refused) a = not_both _ a.root_directory.stat a.root_directory.has_stat none
broken root_block items r (other_root stat has other refused) a =
    other (ap (λ (s : ObjectStat). kind_of_mode s.fields.mode) (some_same _ stat a.root_directory.stat has a.root_directory.has_stat) ∙ a.root_directory.known)
broken root_block items r (no_stat n among named none refused) a =
    let o = a.each n.target (suc named.0, (n, among, refl, named.1)) in not_both _ o.stat o.has_stat none
broken root_block items r (unknown_kind key stat named has none refused) a =
    let o = a.each key named in
    not_both _ o.kind (ap (λ (s : ObjectStat). kind_of_mode s.fields.mode) (some_same _ stat o.stat has o.has_stat) ∙ o.known) none
broken root_block items r (other_items key stat kind known other refused) a =
    let o = a.each key known.named in
    let same = same_kind items key stat kind o known in
    true≢false (sym o.fits ∙ (sym (ap (λ (k : Kind). fits_kind k (items_of key items)) same.1) ∙ other))
broken root_block items r (overlap key leaf named o refused) a = apart_none (items_of key items) leaf (a.each key named).apart o
broken root_block items r (size_range key stat kind known out refused) a =
    let o = a.each key known.named in
    let same = same_kind items key stat kind o known in
    true≢false (sym o.size ∙ (sym (ap (λ (k : Kind). fits_size k o.stat.fields.size) same.1 ∙ refl) ∙ (sym (ap (λ (s : ObjectStat). fits_size kind s.fields.size) same.0) ∙ out)))
