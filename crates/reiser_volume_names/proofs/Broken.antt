-- Each refusal of names has its cause in a rule that fails.
use Rattle.reiser_volume_names.proofs.Imports.{◌≡◌, ℕ, ◌<◌, ◌≤◌, List, ◌∷◌, ◌++◌, length, get_or, AllPairs, refl, sym, ap, subst, ◌∙◌, true≢false, length-append, arith, get_or_append_left, get_or_at, VolumeRefusal, ReiserItem, ObjectKey, Naming, IsDirectory, AreNames, KeepsNameRules, BreaksNameRules, IsNamesRefusal, AreIn, extended_crowd_of, off_form, bad_name, attributes, long_name, long_target, twice, directory_twice, root_named, taken, too_many, crowd, extended_crowd}
use Rattle.reiser_volume_names.proofs.Uniqueness.{visible_one, links_one, extended_one}

-- what holds of each element and each later one holds of these two
pair_in : {X : Type 0} (R : X → X → Type 0) (xs : List X) (x y : X) → AllPairs R xs → AreIn xs x y → R x y
pair_in {X = X} R xs x y all two =
    let k : ℕ = two.earlier.0 in
    let within : k < length two.before = two.earlier.1 in
    let size : length xs ≡ length (two.before ++ (y ∷ two.after)) = ap length two.split in
    let first : get_or xs k x ≡ x = ap (λ (l : List X). get_or l k x) two.split ∙ (get_or_append_left two.before (y ∷ two.after) x k within ∙ two.earlier.2) in
    let second : get_or xs (length two.before) x ≡ y = ap (λ (l : List X). get_or l (length two.before) x) two.split ∙ get_or_at two.before y two.after x (length two.before) refl in
    subst (λ (z : X). R x z) second (subst (λ (z : X). R z (get_or xs (length two.before) x)) first
    (all k (length two.before) x within (omega (arith, size, length-append two.before (y ∷ two.after)))))

over : (n most : ℕ) → most < n → n ≤ most → ⊥
over n most above below = omega (arith, above, below)

broken : (items : List ReiserItem) (visible links : List Naming) (keys also : List ObjectKey) (r : VolumeRefusal)
    → ((object : ObjectKey) (hash : ℕ) → extended_crowd_of links keys object hash ≡ extended_crowd_of links also object hash)
    → BreaksNameRules items visible links keys r → KeepsNameRules items visible links also → ⊥
broken items visible links keys also r same (off_form i among entries named bad is) k = true≢false (sym (k.forms i among entries named) ∙ bad)
broken items visible links keys also r same (bad_name n among bad is) k = true≢false (sym (k.names n among) ∙ bad)
broken items visible links keys also r same (attributes n steps key among other has below is) k = has (k.private n among other)
broken items visible links keys also r same (long_name n among long is) k = over (length n.name) 255 long (k.short n among)
broken items visible links keys also r same (long_target key stat named there kind long is) k = over stat.fields.size 3900 long (k.targets key stat named there kind)
broken items visible links keys also r same (twice m n two dir name is) k = pair_in (λ a b. a.dir ≡ b.dir → a.name ≡ b.name → ⊥) visible m n k.once two dir name
broken items visible links keys also r same (directory_twice m n two directory target is) k =
    pair_in (λ a b. IsDirectory items b.target → a.target ≡ b.target → ⊥) links m n k.directories_once two directory target
broken items visible links keys also r same (root_named n among to is) k = k.root_once n among to
broken items visible links keys also r same (taken n among at name is) k = k.not_taken n among at name
broken items visible links keys also r same (too_many key stat named there other many is) k = let few = k.counts key named other in omega (arith, many, few)
broken items visible links keys also r same (crowd dir hash large is) k = over _ 3900 large (k.crowds dir hash)
broken items visible links keys also r same (extended_crowd object hash large is) k =
    over _ 3900 (subst (λ (n : ℕ). 3900 < n) (same object hash) large) (k.extended_crowds object hash)

pub names_broken : (items : List ReiserItem) (r : VolumeRefusal) → IsNamesRefusal items r → AreNames items → ⊥
names_broken items r b a =
    broken items a.visible a.links b.keys a.keys r (extended_one items b.keys a.keys b.are_keys a.are_keys a.links)
    (subst (λ (l : List Naming). BreaksNameRules items a.visible l b.keys r) (links_one items b.visible b.links a.visible a.links b.are_links a.are_links)
    (subst (λ (v : List Naming). BreaksNameRules items v b.links b.keys r) (visible_one items b.visible b.links a.visible a.links b.are_links a.are_links) b.breaks))
    a.keeps
