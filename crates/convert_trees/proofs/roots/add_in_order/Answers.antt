use Rattle.convert_trees.proofs.Imports.{◌≡◌, ◌∙◌, ◌++◌, ◌∷◌, Bool, true, false, List, [], if◌then◌else◌, append_assoc, refl, sym, ap, ◌&&◌, nat_lt, TreeRoot, inserted}
use Rattle.convert_trees.proofs.roots.add_in_order.Goals as goal

-- a list with two elements more
two_more : (old mid new rest : List TreeRoot) (a b : TreeRoot) → mid ≡ old ++ a ∷ [] → new ≡ mid ++ b ∷ [] → new ++ rest ≡ old ++ (a ∷ (b ∷ rest))
two_more old mid new rest a b one two =
    ap (λ (l : List TreeRoot). l ++ rest) (two ∙ ap (λ (l : List TreeRoot). l ++ b ∷ []) one)
    ∙ (append_assoc (old ++ a ∷ []) (b ∷ []) rest ∙ append_assoc old (a ∷ []) (b ∷ rest))

one_more : (old new rest : List TreeRoot) (b : TreeRoot) → new ≡ old ++ b ∷ [] → new ++ rest ≡ old ++ (b ∷ rest)
one_more old new rest b is = ap (λ (l : List TreeRoot). l ++ rest) is ∙ append_assoc old (b ∷ []) rest

-- where it goes, by what was tested
goes_first : (waits less : Bool) (old : List TreeRoot) (root other : TreeRoot) (rest : List TreeRoot) → (waits && less) ≡ true
    → old ++ (if waits then (if less then root ∷ (other ∷ rest) else other ∷ inserted (λ t. t.tree) root rest) else other ∷ rest) ≡ old ++ (root ∷ (other ∷ rest))
goes_first true true old root other rest e = refl
goes_first true false old root other rest e = absurd (cc e)
goes_first false less old root other rest e = absurd (cc e)

goes_later : (waits less : Bool) (old : List TreeRoot) (root other : TreeRoot) (rest : List TreeRoot) → (waits && less) ≡ false
    → old ++ (if waits then (if less then root ∷ (other ∷ rest) else other ∷ inserted (λ t. t.tree) root rest) else other ∷ rest) ≡ old ++ (other ∷ (if waits then inserted (λ t. t.tree) root rest else rest))
goes_later true true old root other rest e = absurd (cc e)
goes_later true false old root other rest e = refl
goes_later false less old root other rest e = refl

pub returns-then-comes_first : goal.returns-then-comes_first
returns-then-comes_first c = λ rest.
    two_more c.args.list.now _ _ rest c.args.root c.args.other c.in_ok-add.ensures.ok c.in_ok-add-2.ensures.ok
    ∙ sym (goes_first c.args.waits (nat_lt c.args.root.tree c.args.other.tree) c.args.list.now c.args.root c.args.other rest (sym c.comes_first.ensures ∙ c.if-comes_first.true))

pub returns : goal.returns
returns c = λ rest.
    one_more c.args.list.now _ (if c.args.waits then inserted (λ (t : TreeRoot). t.tree) c.args.root rest else rest) c.args.other c.in_ok-add-3.ensures.ok
    ∙ sym (goes_later c.args.waits (nat_lt c.args.root.tree c.args.other.tree) c.args.list.now c.args.root c.args.other rest (sym c.comes_first.ensures ∙ c.if-comes_first.false))
