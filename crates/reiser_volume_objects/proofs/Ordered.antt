-- Where the items of a tree ascend, each comes behind those of its object.
use Rattle.reiser_volume_objects.proofs.Imports.{◌≡◌, ℕ, ◌≤◌, true, List, [], ◌∷◌, ◌++◌, length, get_or, None, length-append, refl, ap, subst, ◌∙◌, arith, nat_tests, get_or_append_left, get_or_push, ReiserItem, order_damages, ObjectKey, same_key, object_key_of, IsBehind, from_filter}
use Rattle.std.specs.Ordering.{nat_cmp, ordering_then, is_lt}
use Rattle.reiser_items.specs.Order.{key_order, kind_number}
use Rattle.reiser_walk.proofs.Lists.{all_pairs_from_pairs}
use Rattle.reiser_walk.proofs.Rules.{ascending_from}
use Rattle.reiser_volume_objects.proofs.Tables.{same_key-true}

offsets : (d o f k e p g l : ℕ) → is_lt (ordering_then (ordering_then (ordering_then (nat_cmp d e) (nat_cmp o p)) (nat_cmp f g)) (nat_cmp k l)) ≡ true → d ≡ e → o ≡ p → f ≤ g
offsets d o f k e p g l below dirs objects = grind (arith, nat_tests)

-- the order of the items given, with the one that stands
pub behind_given : (given : List ReiserItem) (i : ReiserItem) → order_damages None (given ++ i ∷ []) ≡ [] → IsBehind given i
behind_given given i h e among =
    let f = from_filter (λ x. same_key (object_key_of x.head) (object_key_of i.head)) given e among in
    let same : object_key_of e.head ≡ object_key_of i.head = same_key-true (object_key_of e.head) (object_key_of i.head) f.1 in
    let below = all_pairs_from_pairs (λ (x y : ReiserItem). is_lt (key_order x.head y.head) ≡ true) (given ++ i ∷ []) (ascending_from (given ++ i ∷ []) h) f.0.0 (length given) e f.0.1 (omega (arith, length-append given (i ∷ []))) in
    let first : get_or (given ++ i ∷ []) f.0.0 e ≡ e = get_or_append_left given (i ∷ []) e f.0.0 f.0.1 ∙ f.0.2 in
    let last : get_or (given ++ i ∷ []) (length given) e ≡ i = get_or_push given i e (length given) refl in
    offsets e.head.dir e.head.object e.head.offset (kind_number e.head.kind) i.head.dir i.head.object i.head.offset (kind_number i.head.kind)
    (subst (λ (y : ReiserItem). is_lt (key_order e.head y.head) ≡ true) last (subst (λ (x : ReiserItem). is_lt (key_order x.head (get_or (given ++ i ∷ []) (length given) e).head) ≡ true) first below))
    (ap (λ (k : ObjectKey). k.dir) same) (ap (λ (k : ObjectKey). k.object) same)
