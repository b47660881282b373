-- The first rule that fails.
use Rattle.btr_super.proofs.Imports.{◌≡◌, ◌↔◌, ℕ, Bool, true, false, List, [], ◌∷◌, ◌++◌, length, Result, Ok, Err, cond, refl, ap, sym, subst, BtrRefusal, failing, unless_refused}
use Rattle.std.specs.Prelude.{IsOk}

abbrev ok : {A : Type 0} → A → Result A BtrRefusal
ok x = Ok x

abbrev err : {A : Type 0} → BtrRefusal → Result A BtrRefusal
err r = Err r

-- the first rules refuse, so all of them do
pub first_refuses : {U A : Type 0} (bs cs : List (Bool × BtrRefusal)) (u : U) (x : A) (r : BtrRefusal)
    → err {A = U} r ≡ unless_refused (failing bs) u → err {A = A} r ≡ unless_refused (failing (bs ++ cs)) x
first_refuses [] cs u x r e = absurd cc
first_refuses {U = U} {A = A} (rule ∷ bs) cs u x r e =
    let step : (holds : Bool) → err {A = U} r ≡ unless_refused (cond holds (failing bs) (rule.1 ∷ failing bs)) u → err {A = A} r ≡ unless_refused (cond holds (failing (bs ++ cs)) (rule.1 ∷ failing (bs ++ cs))) x
    = λ holds. elim holds as (λ holds. err {A = U} r ≡ unless_refused (cond holds (failing bs) (rule.1 ∷ failing bs)) u → err {A = A} r ≡ unless_refused (cond holds (failing (bs ++ cs)) (rule.1 ∷ failing (bs ++ cs))) x) [
      | true ↦ λ h. first_refuses bs cs u x r h
      | false ↦ λ h. let same : r ≡ rule.1 = cc in ap (λ (z : BtrRefusal). err {A = A} z) same
    ] in
    step rule.0 e

-- the first rules hold, so the others decide
pub others_decide : {U : Type 0} (bs cs : List (Bool × BtrRefusal)) (u : U) → ok {A = U} u ≡ unless_refused (failing bs) u → failing (bs ++ cs) ≡ failing cs
others_decide [] cs u e = refl
others_decide {U = U} (rule ∷ bs) cs u e =
    let step : (holds : Bool) → ok {A = U} u ≡ unless_refused (cond holds (failing bs) (rule.1 ∷ failing bs)) u → cond holds (failing (bs ++ cs)) (rule.1 ∷ failing (bs ++ cs)) ≡ failing cs
    = λ holds. elim holds as (λ holds. ok {A = U} u ≡ unless_refused (cond holds (failing bs) (rule.1 ∷ failing bs)) u → cond holds (failing (bs ++ cs)) (rule.1 ∷ failing (bs ++ cs)) ≡ failing cs) [
      | true ↦ λ h. others_decide bs cs u h
      | false ↦ λ h. absurd cc
    ] in
    step rule.0 e

-- the same answer whatever the value is
pub same_refusal : {U A : Type 0} (rs : List BtrRefusal) (u : U) (x : A) (r : BtrRefusal) → err {A = U} r ≡ unless_refused rs u → err {A = A} r ≡ unless_refused rs x
same_refusal [] u x r e = absurd cc
same_refusal {A = A} (first ∷ rs) u x r e = let same : r ≡ first = cc in ap (λ (z : BtrRefusal). err {A = A} z) same

pub none_refused : {U A : Type 0} (rs : List BtrRefusal) (u : U) (x : A) → ok {A = U} u ≡ unless_refused rs u → ok {A = A} x ≡ unless_refused rs x
none_refused [] u x e = refl
none_refused (r ∷ rs) u x e = absurd cc

is_ok_of : {A : Type 0} (rs : List BtrRefusal) (x : A) → IsOk (unless_refused rs x) ↔ (rs ≡ [])
is_ok_of [] x = (λ h. refl, λ h. refl)
is_ok_of (r ∷ rs) x = (λ h. absurd cc, λ h. absurd cc)

-- Ok exactly where nothing is refused
pub ok_where_none : {A : Type 0} (rs : List BtrRefusal) (x : A) (result : Result A BtrRefusal) → result ≡ unless_refused rs x → IsOk result ↔ (rs ≡ [])
ok_where_none {A = A} rs x result e = subst (λ (z : Result A BtrRefusal). IsOk z ↔ (rs ≡ [])) (sym e) (is_ok_of rs x)
