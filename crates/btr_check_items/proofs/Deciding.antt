-- Tests that are made of others.
use Rattle.btr_check_items.proofs.Imports.{◌≡◌, ℕ, ◌≤◌, ◌&&◌, ◌||◌, ◌⊎◌, ◌↔◌, inl, inr, Bool, true, false, not, Some, None, refl, sym, ap, ⊎_elim, arith, leb, Decides, nat_tests, Decides-like, Decides-not, Decides-or, not_from_Decides, both_ways, cases_Bool, false≢true, not-true, not_from_false, same_test, is_some}

pub decides_leb : (a b : ℕ) → Decides (leb a b) (a ≤ b)
decides_leb a b = grind (arith, nat_tests)

-- a test decides that it is true, and its opposite that it is false
pub itself : (b : Bool) → Decides b (b ≡ true)
itself b = ((λ is. is), (λ is. is))

pub decides_no : (b : Bool) → Decides (not b) (b ≡ false)
decides_no true = ((λ not_so. sym not_so), (λ not_so. sym not_so))
decides_no false = ((λ is_so. refl), (λ is_so. refl))

-- where a fact is asked for only if another one holds
pub decides_if : {P Q : Type 0} (x y : Bool) → Decides x P → Decides y Q → Decides (not x || y) (P → Q)
decides_if {P} {Q} x y dx dy = Decides-like (not x || y) to from (Decides-or _ _ (Decides-not x dx) dy)
  where
    to : (¬ P) ⊎ Q → P → Q
    to (inl not_so) p = absurd (not_so p)
    to (inr q) p = q

    from : (P → Q) → (¬ P) ⊎ Q
    from f = ⊎_elim (λ (is_so : x ≡ true). inr (f (dx.0 is_so))) (λ (not_so : x ≡ false). inl (λ p. both_ways x not_so (dx.1 p))) (cases_Bool x)

-- the same, but where the first one does not hold
pub decides_unless : {Q : Type 0} (x y : Bool) → Decides y Q → Decides (x || y) (x ≡ false → Q)
decides_unless true y dy = ((λ is_so none. absurd (false≢true (sym none))), (λ f. refl))
decides_unless false y dy = ((λ is_so none. dy.0 is_so), (λ f. dy.1 (f refl)))

-- a test that is false decides what can't be
pub never : {P : Type 0} → ¬ P → Decides false P
never not_so = ((λ is_so. absurd (false≢true is_so)), (λ p. absurd (not_so p)))

-- and one that is true what is known
pub always : {P : Type 0} → P → Decides true P
always p = ((λ is_so. p), (λ is. refl))

pub not_none : {A : Type 0} (x : A) → None ≡ Some x → ⊥
not_none x e = false≢true (ap is_some e)

pub some_same : {A : Type 0} (x y : A) → Some x ≡ Some y → x ≡ y
some_same x y e = cc

-- a fact that is asked for where another one does not hold
pub decides_without : {P Q : Type 0} (x y : Bool) → Decides x P → Decides y Q → Decides (x || y) (¬ P → Q)
decides_without {P} {Q} x y dx dy = Decides-like (x || y) to from (Decides-or _ _ dx dy)
  where
    to : P ⊎ Q → ¬ P → Q
    to (inl p) not_so = absurd (not_so p)
    to (inr q) not_so = q

    from : (¬ P → Q) → P ⊎ Q
    from f = ⊎_elim (λ (is_so : x ≡ true). inl (dx.0 is_so)) (λ (not_so : x ≡ false). inr (f (not_from_Decides x dx not_so))) (cases_Bool x)

-- a test and a fact that are to agree
pub decides_same : {Q : Type 0} (x y : Bool) → Decides y Q → Decides (same_test x y) (x ≡ true ↔ Q)
decides_same true y dy = ((λ is_so. ((λ yes. dy.0 is_so), (λ q. refl))), (λ agree. dy.1 (agree.0 refl)))
decides_same false y dy = (
  (λ not_so. ((λ yes. absurd (false≢true yes)), (λ q. absurd (both_ways y (not-true y not_so) (dy.1 q))))),
  (λ agree. ⊎_elim (λ (is_so : y ≡ true). absurd (false≢true (agree.1 (dy.0 is_so)))) (λ (no : y ≡ false). not_from_false y no) (cases_Bool y)),
)

-- not both of two
pub none_of_both : {P : Type 0} (x y : Bool) → Decides x P → Decides (not (x && y)) (P → y ≡ false)
none_of_both true y dx = ((λ not_so p. not-true y not_so), (λ f. not_from_false y (f (dx.0 refl))))
none_of_both false y dx = ((λ is_so p. absurd (false≢true (dx.1 p))), (λ f. refl))
