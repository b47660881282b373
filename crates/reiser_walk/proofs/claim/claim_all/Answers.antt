use Rattle.reiser_walk.proofs.Imports.{◌≡◌, ℕ, ◌+◌, ◌∷◌, [], List, ◌++◌, filter, drop, Contains, refl, sym, ◌∙◌, ap, subst, arith, Contains-append_left, VolumeRefusal, held_by, is_no_hole, MarksSeen, seen_after, reach_damages}
use Rattle.reiser_walk.proofs.Claims.{damages_step, seen_step, drop_end}
use Rattle.reiser_walk.proofs.claim.claim_all.Goals as goal

pub loop-i-init : goal.loop-i-init
loop-i-init c = record { size = refl; fewer = omega arith; left = λ seen marks. (seen, marks, refl, refl) }

pub returns-in-Err-clause-claimed : goal.returns-in-Err-clause-claimed
returns-in-Err-clause-claimed c = λ seen marks.
    let before = c.loop-i.invariant.left seen marks in
    let b : ℕ = c.get-block.result in
    subst (λ (z : List VolumeRefusal). Contains z c.in-Err.e) (sym (damages_step c.args.tree.now c.args.map.now before.0 c.args.blocks.now c.args.holder c.loop-i.i b c.get-block.ensures) ∙ before.2)
    (Contains-append_left (reach_damages c.args.tree.now c.args.map.now before.0 (held_by c.args.holder (filter is_no_hole (b ∷ [])))) _ c.in-Err.e (c.in-Err.ensures.claimed before.0 before.1))

pub loop-i-preserved : goal.loop-i-preserved
loop-i-preserved c =
    let i : ℕ = c.loop-i.i in
    let b : ℕ = c.get-block.result in
    let one = held_by c.args.holder (filter is_no_hole (b ∷ [])) in
    record {
      size = c.claim_unless_hole.ensures.size ∙ c.loop-i.invariant.size;
      fewer = omega (arith, c.claim_unless_hole.ensures.fewer, c.loop-i.invariant.fewer);
      left = λ seen marks.
          let before = c.loop-i.invariant.left seen marks in
          let here = c.in-Ok.ensures.claimed before.0 before.1 in (
            seen_after before.0 one,
            here.1,
            sym (damages_step c.args.tree.now c.args.map.now before.0 c.args.blocks.now c.args.holder i b c.get-block.ensures
                ∙ ap (λ (z : List VolumeRefusal). z ++ reach_damages c.args.tree.now c.args.map.now (seen_after before.0 one) (held_by c.args.holder (filter is_no_hole (drop (i + 1) c.args.blocks.now)))) here.0) ∙ before.2,
            sym (seen_step before.0 c.args.blocks.now c.args.holder i b c.get-block.ensures) ∙ before.3,
          );
    }

pub returns-clause-claimed : goal.returns-clause-claimed
returns-clause-claimed c = λ seen marks.
    let before = c.loop-i.invariant.left seen marks in
    let over : drop c.loop-i.i c.args.blocks.now ≡ [] = drop_end c.args.blocks.now c.loop-i.i (omega arith) in (
      sym before.2 ∙ ap (λ (z : List ℕ). reach_damages c.args.tree.now c.args.map.now before.0 (held_by c.args.holder (filter is_no_hole z))) over,
      subst (MarksSeen c.loop-i.reached) (sym (ap (λ (z : List ℕ). seen_after before.0 (held_by c.args.holder (filter is_no_hole z))) over) ∙ before.3) before.1,
    )
