-- What the sets of a plan's units tell.
use Rattle.unit_plan.proofs.Imports.{◌≡◌, ℕ, ◌*◌, ◌<◌, ◌&&◌, ◌||◌, ltb, not, Bool, true, false, List, replicate, Some, Option, refl, sym, ◌∙◌, ap, subst, MatchOption, and_parts, ltb-true, has, Role, role_by, role_of, has_role, usable_end, is_in_runs, is_among, RoleSets, role_in, Plan}
use Rattle.unit_plan.proofs.Sets.{empty_has}

by_role : (r : Role) (b s m : Bool) → role_by b s m ≡ Some r → b ≡ true
by_role r true s m e = refl
by_role r false s m e = absurd (subst (λ (o : Option Role). MatchOption o (Unit {0}) (λ _. ⊥)) e tt)

pub role_inside : (s : RoleSets) (usable : ℕ) → usable ≡ s.usable → (u : ℕ) (r : Role) → role_in s u ≡ Some r → 256 * u < usable
role_inside s usable is u r e =
    let t = by_role r (ltb 0 u && (ltb (256 * u) s.usable && not (has s.unallocated u))) (has s.system u) (has s.metadata u) e in
    let low : 256 * u < s.usable = ltb-true (256 * u) s.usable (and_parts (ltb (256 * u) s.usable) _ (and_parts (ltb 0 u) _ t).1).0 in
    subst (λ (e : ℕ). 256 * u < e) (sym is) low

-- what was put into an empty set
pub only_marked : (none set : List Bool) (n u : ℕ) (t : Bool) → none ≡ replicate n false → has set u ≡ (has none u || t) → has set u ≡ t
only_marked none set n u t empty is = is ∙ ap (λ b. b || t) (ap (λ s. has s u) empty ∙ empty_has n u)

pub roles_told : (s : RoleSets) (plan : Plan) (blocks u : ℕ) → has s.system u ≡ is_among plan.system u → has s.metadata u ≡ is_among plan.metadata u → has s.unallocated u ≡ is_in_runs plan.unallocated u
    → s.usable ≡ usable_end blocks → role_in s u ≡ role_of plan blocks u
unfolding role_of has_role
roles_told s plan blocks u system metadata unallocated usable = rw (system, metadata, unallocated, usable) refl
