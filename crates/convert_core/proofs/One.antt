-- A volume has one survey.
use Rattle.convert_core.proofs.Imports.{◌≡◌, List, [], ◌∷◌, refl, sym, ◌∙◌, ap, subst, ⊎_elim, arith, Contains, AllByRecursion, false≢true, contains_cases, contains_head, contains_tail, ObjectKey, volume_items, Counts, Need, need, counts_of}
use Rattle.std.specs.List.Sorted.{IsStrictlySortedBy}
use Rattle.std.specs.Ordering.{is_lt, ordering_reverse}
use Rattle.std.specs.declared.cmp.Ordering.TheVariants.{Less}
use Rattle.reiser_volume.specs.reiser_volume_names.Links.{object_cmp}
use Rattle.reiser_volume.proofs.reiser_volume_names.Tabling.{object_total}
use Rattle.reiser_volume.proofs.reiser_volume_names.Uniqueness.{links_one}
use Rattle.reiser_volume.specs.reiser_volume_objects.declared.naming.Naming.{Naming}
use Rattle.convert_core.specs.declared.survey.Survey.{Survey}
use Rattle.convert_core.specs.Laws.{SurveysAreOne}

-- one key is not below another that is below it
not_both : (a b : ObjectKey) → object_cmp a b ≡ Less → object_cmp b a ≡ Less → ⊥
not_both a b less more = false≢true (sym (ap is_lt (object_total.antisymm b a ∙ ap ordering_reverse less)) ∙ ap is_lt more)

less_in : (x : ObjectKey) (xs : List ObjectKey) (y : ObjectKey) → AllByRecursion (λ z. object_cmp x z ≡ Less) xs → Contains xs y → object_cmp x y ≡ Less
less_in x [] y all h = absurd (omega (arith, h.1))
less_in x (z ∷ xs) y all h =
    ⊎_elim (λ (same : z ≡ y). subst (λ (k : ObjectKey). object_cmp x k ≡ Less) same all.0) (λ (later : Contains xs y). less_in x xs y all.1 later) (contains_cases y z xs h)

-- two lists of keys that ascend are one where they have the same keys
pub ascending_one : (xs ys : List ObjectKey) → IsStrictlySortedBy object_cmp xs → IsStrictlySortedBy object_cmp ys → ((key : ObjectKey) → Contains xs key → Contains ys key)
    → ((key : ObjectKey) → Contains ys key → Contains xs key) → xs ≡ ys
unfolding IsStrictlySortedBy
ascending_one [] [] first second forth back = refl
ascending_one [] (y ∷ ys) first second forth back = let none = back y (contains_head y ys) in absurd (omega (arith, none.1))
ascending_one (x ∷ xs) [] first second forth back = let none = forth x (contains_head x xs) in absurd (omega (arith, none.1))
ascending_one (x ∷ xs) (y ∷ ys) first second forth back =
    let same : x ≡ y =
    ⊎_elim (λ (e : y ≡ x). sym e) (λ (later : Contains ys x).
    ⊎_elim (λ (e : x ≡ y). e) (λ (other : Contains xs y). absurd (not_both x y (less_in x xs y first.0 other) (less_in y ys x second.0 later)))
    (contains_cases y x xs (back y (contains_head y ys))))
    (contains_cases x y ys (forth x (contains_head x xs))) in
    let itself : (k : ObjectKey) → object_cmp k k ≡ Less → ⊥ = λ k less. not_both k k less less in
    let rest : xs ≡ ys =
    ascending_one xs ys first.1 second.1
    (λ key h. ⊎_elim (λ (e : y ≡ key). absurd (itself x (subst (λ (k : ObjectKey). object_cmp x k ≡ Less) (sym (same ∙ e)) (less_in x xs key first.0 h)))) (λ (later : Contains ys key). later) (contains_cases key y ys (forth key (contains_tail key x xs h))))
    (λ key h. ⊎_elim (λ (e : x ≡ key). absurd (itself y (subst (λ (k : ObjectKey). object_cmp y k ≡ Less) (sym (sym same ∙ e)) (less_in y ys key second.0 h)))) (λ (later : Contains xs key). later) (contains_cases key x xs (back key (contains_tail key y ys h)))) in
    ap (λ (k : ObjectKey). k ∷ xs) same ∙ ap (λ (l : List ObjectKey). y ∷ l) rest

survey_by : (counts : Counts) (space : Need) (s : Survey) → counts ≡ s.counts → space ≡ s.need → (let made : Survey = record { counts = counts; need = space } in made) ≡ s
survey_by counts space s a b = rw (a, b) refl

pub surveys_are_one : SurveysAreOne
surveys_are_one o image told other a b =
    let keys : a.keys ≡ b.keys = ascending_one a.keys b.keys a.ascend b.ascend (λ key h. (b.are_keys.exact key).1 ((a.are_keys.exact key).0 h)) (λ key h. (a.are_keys.exact key).1 ((b.are_keys.exact key).0 h)) in
    let links : a.links ≡ b.links = links_one (volume_items image) a.visible a.links b.visible b.links a.are_links b.are_links in
    let counts : told.counts ≡ other.counts =
    a.counts_are ∙ (ap (λ (ks : List ObjectKey). counts_of o.inline image ks a.links) keys ∙ (ap (λ (ls : List Naming). counts_of o.inline image b.keys ls) links ∙ sym b.counts_are)) in
    survey_by told.counts told.need other counts (a.need_is ∙ (ap (λ (c : Counts). need c o) counts ∙ sym b.need_is))
