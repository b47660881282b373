-- One block after the other becomes what is made of it by what a choice has for it.
use Rattle.outside_mem.proofs.Imports.{◌≡◌, ◌≢◌, ⊎_elim, ℕ, ◌<◌, Bool, cond, nat_lt, Option, Some, None, List, ◌∷◌, length, get_or, drop, Bor, refl, sym, ◌∙◌, ap, subst, arith, cases_eq, get_or-drop, get_or_past, nil_from_length, drop_all, sorted_tail, MatchOption, unwrap_or, option_copied, nat_cmp, is_at, lookup, keys_of, count_by, IsStrictlySortedBy, Block, choice_for, made_or}
use Rattle.outside_mem.proofs.Keys.{here_eq, apart_eq, head_below, none_below, above_from_found, count_before_first, count_first}

module _ (n : ℕ) (synced : Block) (rest es : List (ℕ × Block)) (is : es ≡ (n, synced) ∷ rest) (ordered : IsStrictlySortedBy nat_cmp (keys_of es)) where
  front : IsStrictlySortedBy nat_cmp (n ∷ keys_of rest)
  front = subst (λ (l : List (ℕ × Block)). IsStrictlySortedBy nat_cmp (keys_of l)) is ordered

  pub rest_ordered : IsStrictlySortedBy nat_cmp (keys_of rest)
  rest_ordered = sorted_tail nat_cmp n (keys_of rest) front

  -- what is made of a block by what the choice has for it
  module _ {A : Type 0} (none : A) (make : ℕ → List ℕ → A → List ℕ) where
    -- a block, once those of some entries were made
    abbrev taken : List (ℕ × Block) → (ℕ → List ℕ) → List A → ℕ → List ℕ
    taken left blocks choice q = made_or (blocks q) (λ synced. make q synced (choice_for none (keys_of left) choice q)) (lookup (is_at (nat_cmp q)) left)

    pub choose_more : (blocks blocks' : ℕ → List ℕ) (choice choice' : List A) (one : A) → blocks' n ≡ make n synced.bytes one
        → ((q : ℕ) → q ≢ n → blocks' q ≡ blocks q) → one ≡ get_or choice 0 none → choice' ≡ drop 1 choice
        → (before : ℕ → List ℕ) → ((q : ℕ) → taken es blocks choice q ≡ before q) → (q : ℕ) → taken rest blocks' choice' q ≡ before q
    choose_more blocks blocks' choice choice' one value_is others one_is choice_is before so_far q = ⊎_elim here there (cases_eq q n)
      where
        was : taken ((n, synced) ∷ rest) blocks choice q ≡ before q
        was = ap (λ (l : List (ℕ × Block)). taken l blocks choice q) (sym is) ∙ so_far q

        first : choice_for none (n ∷ keys_of rest) choice n ≡ get_or choice 0 none
        first = ap (λ (i : ℕ). get_or choice i none) (count_before_first n (keys_of rest) (head_below n (keys_of rest) front))

        here : q ≡ n → taken rest blocks' choice' q ≡ before q
        here same =
            ap (λ (k : ℕ). taken rest blocks' choice' k) same
            ∙ ap (λ (o : Option Block). made_or (blocks' n) (λ synced. make n synced (choice_for none (keys_of rest) choice' n)) o) (none_below n n (omega arith) rest (head_below n (keys_of rest) front))
            ∙ value_is
            ∙ ap (λ (x : A). make n synced.bytes x) (one_is ∙ sym first)
            ∙ ap (λ (t : Bool). made_or (blocks n) (λ synced. make n synced (choice_for none (n ∷ keys_of rest) choice n)) (cond t (Some synced) (lookup (is_at (nat_cmp n)) rest))) (sym (here_eq n))
            ∙ ap (λ (k : ℕ). taken ((n, synced) ∷ rest) blocks choice k) (sym same)
            ∙ was

        at : q ≢ n → (o : Option Block) → lookup (is_at (nat_cmp q)) rest ≡ o
            → made_or (blocks' q) (λ synced. make q synced (choice_for none (keys_of rest) choice' q)) o ≡ made_or (blocks q) (λ synced. make q synced (choice_for none (n ∷ keys_of rest) choice q)) o
        at other None found = others q other
        at other (Some block) found =
            let below : n < q = above_from_found n q rest block (head_below n (keys_of rest) front) found in
            ap (λ (x : A). make q block.bytes x)
            (ap (λ (l : List A). get_or l (count_by (λ a. nat_lt a q) (keys_of rest)) none) choice_is
            ∙ get_or-drop 1 choice (count_by (λ a. nat_lt a q) (keys_of rest)) none
            ∙ ap (λ (i : ℕ). get_or choice i none) (sym (count_first n q (keys_of rest) below)))

        there : q ≢ n → taken rest blocks' choice' q ≡ before q
        there other =
            at other (lookup (is_at (nat_cmp q)) rest) refl
            ∙ ap (λ (t : Bool). made_or (blocks q) (λ synced. make q synced (choice_for none (n ∷ keys_of rest) choice q)) (cond t (Some synced) (lookup (is_at (nat_cmp q)) rest))) (sym (apart_eq q n (λ eq. other (sym eq))))
            ∙ was

-- the next of a choice, or the other one where there is none
module _ {A : Type 0} (none : A) {I : Type 0} (old new : I) (rest : I → List A) where
  pub next_chosen : (o : Option (Bor A)) → MatchOption o ((length (rest old) ≡ 0) × (new ≡ old)) (λ x. rest old ≡ x.now ∷ rest new)
      → (unwrap_or (option_copied o) none ≡ get_or (rest old) 0 none) × (rest new ≡ drop 1 (rest old))
  next_chosen None steps = (
    sym (get_or_past (rest old) 0 none (omega (arith, steps.0))),
    ap rest steps.1 ∙ nil_from_length (rest old) steps.0 ∙ sym (drop_all 1 (rest old) (omega (arith, steps.0))),
  )
  next_chosen (Some x) steps = (ap (λ (l : List A). get_or l 0 none) (sym steps), ap (λ (l : List A). drop 1 l) (sym steps))
