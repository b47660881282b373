-- References that are the same but for their counts.
use Rattle.btr_check_rules.proofs.Imports.{◌≡◌, ℕ, ◌==◌, ◌&&◌, Bool, true, false, List, [], ◌∷◌, cond, filter, refl, sym, ◌∙◌, ap, subst, arith, AllPairs, Contains, ⊎_elim, All-contains, and_from, and_parts, eq-eqb, eqb-true, false_from_ne_true, true≢false, sum_by, at_head, head_or_tail, in_tail, ref_kind, ref_objectid, ref_offset, ref_parent, ref_root, InlineRef, same_ref}
use Rattle.btr_check_rules.proofs.Distinct.{pairs_head}

pub record AreAlike (a b : InlineRef) : Type 0 where
  pub kind : ref_kind a ≡ ref_kind b
  pub root : ref_root a ≡ ref_root b
  pub objectid : ref_objectid a ≡ ref_objectid b
  pub offset : ref_offset a ≡ ref_offset b
  pub parent : ref_parent a ≡ ref_parent b

pub alike : (a b : InlineRef) → same_ref a b ≡ true → AreAlike a b
alike a b same =
    let one = and_parts _ _ same in
    let two = and_parts _ _ one.1 in
    let three = and_parts _ _ two.1 in
    let four = and_parts _ _ three.1 in
    record {
      kind = eqb-true (ref_kind a) (ref_kind b) one.0;
      root = eqb-true (ref_root a) (ref_root b) two.0;
      objectid = eqb-true (ref_objectid a) (ref_objectid b) three.0;
      offset = eqb-true (ref_offset a) (ref_offset b) four.0;
      parent = eqb-true (ref_parent a) (ref_parent b) four.1;
    }

pub same_from : (a b : InlineRef) → AreAlike a b → same_ref a b ≡ true
same_from a b are =
    and_from _ _ (eq-eqb (ref_kind a) (ref_kind b) are.kind)
    (and_from _ _ (eq-eqb (ref_root a) (ref_root b) are.root)
    (and_from _ _ (eq-eqb (ref_objectid a) (ref_objectid b) are.objectid)
    (and_from _ _ (eq-eqb (ref_offset a) (ref_offset b) are.offset) (eq-eqb (ref_parent a) (ref_parent b) are.parent))))

-- those that are like a third one are alike
pub by_third : (ref a b : InlineRef) → same_ref ref a ≡ true → same_ref ref b ≡ true → same_ref a b ≡ true
by_third ref a b one two =
    let x = alike ref a one in
    let y = alike ref b two in
    same_from a b (record {
      kind = sym x.kind ∙ y.kind;
      root = sym x.root ∙ y.root;
      objectid = sym x.objectid ∙ y.objectid;
      offset = sym x.offset ∙ y.offset;
      parent = sym x.parent ∙ y.parent;
    })

-- of references that differ one alone is like another one
pub kept_one : (ref x : InlineRef) (ys : List InlineRef) → AllPairs (λ a b. same_ref a b ≡ false) ys → ((y : InlineRef) → Contains ys y → same_ref ref y ≡ true) → Contains ys x → ys ≡ x ∷ []
kept_one ref x [] apart each h = absurd (omega (arith, h.1))
kept_one ref x (y ∷ []) apart each h = ⊎_elim (λ (same : y ≡ x). ap (λ (z : InlineRef). z ∷ []) same) (λ (later : Contains [] x). absurd (omega (arith, later.1))) (head_or_tail y [] x h)
kept_one ref x (y ∷ (z ∷ zs)) apart each h =
    let no_ : same_ref y z ≡ false = All-contains (λ (w : InlineRef). same_ref y w ≡ false) (z ∷ zs) z (pairs_head (λ (a b : InlineRef). same_ref a b ≡ false) y (z ∷ zs) apart) (at_head z zs) in
    absurd (true≢false (sym (by_third ref y z (each y (at_head y (z ∷ zs))) (each z (in_tail y (z ∷ zs) z (at_head z zs)))) ∙ no_))

-- nothing passes a test that is false of each
pub kept_none : {X : Type 0} (p : X → Bool) (xs : List X) → ((x : X) → Contains xs x → p x ≡ false) → filter p xs ≡ []
kept_none p [] none = refl
kept_none p (x ∷ xs) none = ap (λ (b : Bool). cond b (x ∷ filter p xs) (filter p xs)) (none x (at_head x xs)) ∙ kept_none p xs (λ y h. none y (in_tail x xs y h))
