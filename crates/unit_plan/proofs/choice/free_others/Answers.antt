use Rattle.unit_plan.proofs.Imports.{◌≡◌, ℕ, ◌+◌, ◌/◌, ◌++◌, ◌∷◌, [], true, List, length, take, drop, cond, leb, ltb, ◌-◌, ◌&&◌, refl, sym, ◌∙◌, ap, arith, filter, range_with_len, take_all, drop_all, filter_more_yes, filter_more_no, count_more_yes, is_other, others}
use Rattle.unit_plan.proofs.Lists.{window, window-push}
use Rattle.unit_plan.proofs.choice.free_others.Goals as goal

abbrev empty : List ℕ
empty = []

nothing : (skip wanted : ℕ) → empty ≡ take wanted (drop skip empty)
nothing skip wanted = sym (ap (take wanted) (drop_all skip empty (omega arith)) ∙ take_all wanted empty (omega arith))

pub loop-u-init : goal.loop-u-init
unfolding window
loop-u-init c = record { seen_is = refl; few = omega arith; units_are = c.new-units.ensures ∙ nothing c.args.skip c.args.wanted }

pub loop-u-preserved-then-not-is_other : goal.loop-u-preserved-then-not-is_other
loop-u-preserved-then-not-is_other c =
    let p = is_other c.args.map.now c.args.taken.first c.args.taken.count in
    let same : filter p (range_with_len 0 (c.loop-u.u + 1)) ≡ filter p (range_with_len 0 c.loop-u.u) = filter_more_no p c.loop-u.u (sym c.is_other.ensures ∙ c.if-not-is_other.true) in
    record {
      seen_is = c.loop-u.invariant.seen_is ∙ ap length (sym same);
      few = omega (arith, c.loop-u.invariant.few);
      units_are = c.loop-u.invariant.units_are ∙ ap (window c.args.skip c.args.wanted) (sym same);
    }

pub loop-u-preserved : goal.loop-u-preserved
loop-u-preserved c =
    let p = is_other c.args.map.now c.args.taken.first c.args.taken.count in
    let passes : p c.loop-u.u ≡ true = sym c.is_other.ensures ∙ c.if-not-is_other.false in
    let seen : List ℕ = filter p (range_with_len 0 c.loop-u.u) in
    let more : filter p (range_with_len 0 (c.loop-u.u + 1)) ≡ seen ++ c.loop-u.u ∷ [] = filter_more_yes p c.loop-u.u passes in
    record {
      seen_is = omega (arith, count_more_yes p c.loop-u.u passes, c.loop-u.invariant.seen_is);
      few = omega (arith, c.loop-u.invariant.few);
      units_are =
          c.in_ok-add_in_turn.ensures
          ∙ (ap (λ us. cond (leb c.args.skip c.loop-u.seen && ltb (c.loop-u.seen - c.args.skip) c.args.wanted) (us ++ c.loop-u.u ∷ []) us) c.loop-u.invariant.units_are
          ∙ (window-push c.args.skip c.args.wanted c.loop-u.seen seen c.loop-u.u c.loop-u.invariant.seen_is ∙ ap (window c.args.skip c.args.wanted) (sym more)));
    }

pub returns : goal.returns
unfolding window others
returns c =
    let end : c.loop-u.u ≡ length c.args.map.now / 256 = omega (arith, c.requires.volume, c.loop-u-test.false, c.loop-u.auto.u-end) in
    c.loop-u.invariant.units_are ∙ ap (λ (n : ℕ). window c.args.skip c.args.wanted (filter (is_other c.args.map.now c.args.taken.first c.args.taken.count) (range_with_len 0 n))) end
