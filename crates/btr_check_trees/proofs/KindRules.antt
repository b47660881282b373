-- Kinds of items that stand in one tree each, item by item.
use Rattle.btr_check_trees.proofs.Imports.{◌≡◌, ℕ, ◌==◌, Bool, true, false, not, ◌&&◌, ◌||◌, List, [], ◌∷◌, ◌++◌, map, Result, refl, sym, ap, subst, ◌∙◌, All, MatchResult, IfErr, OnOk, All-contains, All-nil, All-push, MatchResult-from_both, MatchResult-weaker, Item, TreeItem, in_leaf, bare_item, BLOCK_GROUP_ITEM, CHUNK_ITEM, DEV_EXTENT, DEV_ITEM, EXTENT_CSUM, EXTENT_ITEM, METADATA_ITEM, ROOT_ITEM, CHUNK_TREE, CSUM_TREE, DEV_TREE, EXTENT_TREE, ROOT_TREE, has_own_tree, TellsPart, Answer}
use Rattle.btr_check_trees.specs.Kinds.{HoldsKinds, RefusesKinds, is_own_kind}
use Rattle.btr_check_trees.specs.declared.own_kinds.OwnKinds.{OwnKinds}
use Rattle.btr_check_walk.specs.command_answers.declared.answer.Answer.TheVariants as answers
use Rattle.btr_check_trees.proofs.OneMore.{bare_more, last_among}

and_true : (b : Bool) → b ≡ (b && true)
and_true true = refl
and_true false = refl

-- the test is that of the definition
pub own_kinds_same : (number : ℕ) (i : Item) → is_own_kind number i.0.kind ≡ has_own_tree number i
own_kinds_same number i =
    let k : ℕ = i.0.kind in
    ap (λ (last : Bool).
    (not (k == CHUNK_ITEM) || (number == CHUNK_TREE))
    && ((not (k == DEV_ITEM) || (number == CHUNK_TREE))
    && ((not (k == EXTENT_ITEM) || (number == EXTENT_TREE))
    && ((not (k == METADATA_ITEM) || (number == EXTENT_TREE))
    && ((not (k == BLOCK_GROUP_ITEM) || (number == EXTENT_TREE))
    && ((not (k == ROOT_ITEM) || (number == ROOT_TREE)) && ((not (k == DEV_EXTENT) || (number == DEV_TREE)) && last)))))))
    (and_true (not (k == EXTENT_CSUM) || (number == CSUM_TREE)))

abbrev AreOwn : ℕ → List Item → Type 0
AreOwn number items = All (λ i. has_own_tree number i ≡ true) items

-- no items so far
pub none_held : (v : OwnKinds) → HoldsKinds v v []
none_held v = record { number = refl; kinds = All-nil (λ (i : Item). has_own_tree v.number i ≡ true) }

-- one more, by the test of its kind
pub kind_met : {T : Type 0} (r : Result T Answer) (begun v w : OwnKinds) (items : List TreeItem) (leaf : ℕ) (i : Item) (own : Bool) → own ≡ has_own_tree v.number i → w.number ≡ v.number → HoldsKinds begun v items
    → OnOk r (own ≡ true) → IfErr r (λ e. (own ≡ false) × (e ≡ answers.NotSound 1 v.number))
    → MatchResult r (λ _. HoldsKinds begun w (items ++ in_leaf leaf i ∷ [])) (TellsPart (RefusesKinds begun (items ++ in_leaf leaf i ∷ [])))
kind_met r begun v w items leaf i own is same holds ok err =
    let told : own ≡ has_own_tree begun.number i = is ∙ ap (λ (n : ℕ). has_own_tree n i) holds.number in
    MatchResult-weaker r (MatchResult-from_both r (λ _. own ≡ true) (λ e. (own ≡ false) × (e ≡ answers.NotSound 1 v.number)) ok err)
    (λ x passes. record {
      number = same ∙ holds.number;
      kinds = subst (AreOwn begun.number) (sym (bare_more items (in_leaf leaf i))) (All-push (λ (j : Item). has_own_tree begun.number j ≡ true) (map bare_item items) i holds.kinds (sym told ∙ passes));
    })
    (λ e refused.
    subst (TellsPart (RefusesKinds begun (items ++ in_leaf leaf i ∷ []))) (sym refused.1)
    (record {
      part_is = refl;
      address_is = holds.number;
      fails = λ all.
          let passes = All-contains (λ (j : Item). has_own_tree begun.number j ≡ true) (map bare_item (items ++ in_leaf leaf i ∷ [])) i all (last_among items (in_leaf leaf i)) in
          let both : true ≡ false = sym passes ∙ (sym told ∙ refused.0) in
          cc;
    }))
