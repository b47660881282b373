-- The root tree's items, one root after the other.
use Rattle.space_items.proofs.Imports.{◌≡◌, ◌≢◌, ◌≤◌, ◌<◌, ℕ, zero, suc, ◌+◌, ◌-◌, List, [], ◌∷◌, ◌++◌, length, map, drop, get_or, Some, sym, ap, subst, ◌∙◌, append_assoc, arith, drop-cons, All, slice_get, slice_range, length-drop, drop-drop, get_or-drop, slice_get_within, get_or_from_slice_get, ROOT_ITEM, Ids, Key, make_key, IsBefore, Item, TreeRoot, merged, AreBefore, tree_root_item, other_root_items}
use Rattle.space_items.proofs.Merging.{merged_behind, merged_ahead}

-- none of the other items is a root item
others_apart : (index now k : ℕ) (d : Item) → k < length (other_root_items index now) → (get_or (other_root_items index now) k d).0.kind ≢ ROOT_ITEM
others_apart index now zero d h = omega arith
others_apart index now (suc zero) d h = omega arith
others_apart index now (suc (suc zero)) d h = omega arith
others_apart index now (suc (suc (suc zero))) d h = omega arith
others_apart index now (suc (suc (suc (suc zero)))) d h = omega arith
others_apart index now (suc (suc (suc (suc (suc k))))) d h = absurd (omega (arith, h))

module _ (f : TreeRoot → Item) (key : Key) (others whole : List Item) (next end : ℕ) (passed : AreBefore others next key end) (apart : All (λ i. i.0.kind ≢ key.kind) others) where
  -- what is left, where the next root stands behind a part of the others
  left_is : (x : Item) (xs : List Item) → key ≡ x.0 → merged (x ∷ xs) (drop next others) ≡ slice_range others next end ++ x ∷ merged xs (drop end others)
  left_is x xs is =
      let n : ℕ = end - next in
      let to : next + n ≡ end = omega (arith, passed.low) in
      let rest : drop n (drop next others) ≡ drop end others = drop-drop n next others ∙ ap (λ (m : ℕ). drop m others) to in
      let long = length-drop end others in
      let at : (k : ℕ) (d : Item) → get_or (drop next others) k d ≡ get_or others (next + k) d = λ k d. get_or-drop next others k d in
      merged_behind x xs (drop next others) n (omega (arith, length-drop next others, passed.within))
      (λ k d less. subst (λ (i : Item). IsBefore i.0 x.0) (sym (at k d)) (subst (IsBefore (get_or others (next + k) d).0) is (passed.before (next + k) d (omega arith) (omega (arith, less, to)))))
      ∙ (ap (λ (l : List Item). slice_range others next end ++ merged (x ∷ xs) l) rest
      ∙ ap (λ (l : List Item). slice_range others next end ++ l)
      (merged_ahead x xs (drop end others)
      (λ d some before. passed.behind d (omega (arith, some, long))
      (subst (IsBefore (get_or others end d).0) (sym is) (subst (λ (i : Item). IsBefore i.0 x.0) (first d) before)))
      (λ d some same. apart end d (omega (arith, some, long)) (ap (λ (i : Item). i.0.kind) (sym (first d)) ∙ (same ∙ ap (λ (k : Key). k.kind) (sym is))))))
    where
      first : (d : Item) → get_or (drop end others) 0 d ≡ get_or others end d
      first d = let at : end + 0 ≡ end = omega arith in get_or-drop end others 0 d ∙ ap (λ (n : ℕ). get_or others n d) at

  pub root_added : (list : List TreeRoot) (i : ℕ) (root : TreeRoot) (items before new : List Item) → slice_get list i ≡ Some root → key ≡ (f root).0 → items ++ merged (map f (drop i list)) (drop next others) ≡ whole
      → before ≡ items ++ slice_range others next end → new ≡ before ++ f root ∷ [] → new ++ merged (map f (drop (i + 1) list)) (drop end others) ≡ whole
  root_added list i root items before new there is so_far before_is new_is =
      let one : i + 1 ≡ suc i = omega arith in
      let rest : List Item = map f (drop (i + 1) list) in
      let ahead : drop i list ≡ root ∷ drop (i + 1) list =
      drop-cons list i root (slice_get_within list i root there)
      ∙ (ap (λ (r : TreeRoot). r ∷ drop (suc i) list) (get_or_from_slice_get list i root root there) ∙ ap (λ (n : ℕ). root ∷ drop n list) (sym one)) in
      ap (λ (l : List Item). l ++ merged rest (drop end others)) (new_is ∙ ap (λ (l : List Item). l ++ f root ∷ []) before_is)
      ∙ (append_assoc (items ++ slice_range others next end) (f root ∷ []) (merged rest (drop end others))
      ∙ (append_assoc items (slice_range others next end) (f root ∷ merged rest (drop end others))
      ∙ (ap (λ (l : List Item). items ++ l) (sym (left_is (f root) rest is))
      ∙ (ap (λ (l : List TreeRoot). items ++ merged (map f l) (drop next others)) (sym ahead) ∙ so_far))))

-- at the others of a root tree
pub root_more : (ids : Ids) (nodesize index now : ℕ) (key : Key) (others whole : List Item) (next end : ℕ) (list : List TreeRoot) (i : ℕ) (root : TreeRoot) (items before new : List Item)
    → others ≡ other_root_items index now → AreBefore others next key end → slice_get list i ≡ Some root → key ≡ make_key root.tree ROOT_ITEM 0
    → items ++ merged (map (tree_root_item ids nodesize) (drop i list)) (drop next (other_root_items index now)) ≡ whole → before ≡ items ++ slice_range others next end
    → new ≡ before ++ tree_root_item ids nodesize root ∷ []
    → (end ≤ length (other_root_items index now)) × (new ++ merged (map (tree_root_item ids nodesize) (drop (i + 1) list)) (drop end (other_root_items index now)) ≡ whole)
root_more ids nodesize index now key others whole next end list i root items before new are passed there is so_far before_is new_is =
    let all : List Item = other_root_items index now in
    let known : AreBefore all next key end = subst (λ (l : List Item). AreBefore l next key end) are passed in
    let kind : key.kind ≡ ROOT_ITEM = ap (λ (k : Key). k.kind) is in (
      known.within,
      root_added (tree_root_item ids nodesize) key all whole next end known (λ k d h same. others_apart index now k d h (same ∙ kind)) list i root items before new there is so_far
          (before_is ∙ ap (λ (l : List Item). items ++ slice_range l next end) are) new_is,
    )
