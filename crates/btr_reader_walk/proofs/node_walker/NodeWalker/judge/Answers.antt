use Rattle.btr_reader_walk.proofs.Imports.{◌≡◌, ◌≤◌, ◌+◌, ◌*◌, ℕ, List, length, refl, sym, ◌∙◌, ap, subst, arith, children_in, may_be_bare, fan_out, HasLeafLayout}
use Rattle.btr_reader_walk.proofs.Judging.{any_ok, any_err, ok_with, ok_both, judged, pushes_as, leaf_pushes, some_weight, stack_after, inner_lighter}
use Rattle.btr_reader_walk.proofs.node_walker.NodeWalker.judge.Goals as goal

pub returns-then-p-eq0-clause-damages : goal.returns-then-p-eq0-clause-damages
returns-then-p-eq0-clause-damages c = judged c.check_leaf.result _ _ _ _ _ _ c.want-want.ensures c.may_be_bare.ensures c.as_slice-bytes.ensures.value c.check_leaf.ensures.damages

pub returns-then-p-eq0-clause-pushes : goal.returns-then-p-eq0-clause-pushes
returns-then-p-eq0-clause-pushes c = any_ok c.check_leaf.result (leaf_pushes c.args.p.now.level c.args.self.now.bytes.items c.args.self.now.pending.items (omega (arith, c.if-p-eq0.true)))

pub returns-then-p-eq0-clause-unchanged : goal.returns-then-p-eq0-clause-unchanged
returns-then-p-eq0-clause-unchanged c = any_err c.check_leaf.result refl

pub returns-then-p-eq0-clause-layout : goal.returns-then-p-eq0-clause-layout
returns-then-p-eq0-clause-layout c = ok_with c.check_leaf.result c.check_leaf.ensures.layout (λ layout leaf. subst HasLeafLayout c.as_slice-bytes.ensures.value layout)

pub returns-then-p-eq0-clause-ends : goal.returns-then-p-eq0-clause-ends
returns-then-p-eq0-clause-ends c = any_ok c.check_leaf.result (omega (arith, some_weight c.args.self.now.tree.form.nodesize c.args.p.now.level))

pub invariant_of-self-2-clause-stack : goal.invariant_of-self-2-clause-stack
invariant_of-self-2-clause-stack c =
    let w = c.args.self.now in
    let fan : ℕ = fan_out w.tree.form.nodesize in
    let seen : List ℕ = c.as_slice-bytes.result.now in
    let wide : fan_out (length seen) ≡ fan = ap fan_out (ap (λ (bytes : List ℕ). length bytes) c.as_slice-bytes.ensures.value ∙ w.buffer) in
    stack_after (w.tree.root.level * fan) fan c.args.p.now.level w.pending.items c.open_inner.new.pending.items seen c.open_inner.result w.stack c.requires.room
    (ok_with c.open_inner.result c.open_inner.ensures.pushed (pushes_as _ _ seen seen w.pending.items _ (ap (λ e. e.level) c.want-want.ensures) refl))
    (ok_with c.open_inner.result c.open_inner.ensures.few (λ few inner. subst (λ (n : ℕ). length (children_in seen) ≤ n) wide few))
    c.open_inner.ensures.unchanged

pub invariant_of-self-2-clause-room : goal.invariant_of-self-2-clause-room
invariant_of-self-2-clause-room c = subst (λ (n : ℕ). c.args.self.now.tree.root.level * fan_out c.args.self.now.tree.form.nodesize + 1 ≤ n) (sym c.open_inner.ensures.capacity) c.args.self.now.room

pub returns-clause-damages : goal.returns-clause-damages
returns-clause-damages c =
    judged c.open_inner.result _ _ _ _ _ _ c.want-want.ensures refl c.as_slice-bytes.ensures.value (c.open_inner.ensures.damages (may_be_bare c.args.self.now.tree.root))

pub returns-clause-pushes : goal.returns-clause-pushes
returns-clause-pushes c =
    ok_with c.open_inner.result c.open_inner.ensures.pushed
    (pushes_as _ _ _ _ c.args.self.now.pending.items _ (ap (λ e. e.level) c.want-want.ensures) c.as_slice-bytes.ensures.value)

pub returns-clause-layout : goal.returns-clause-layout
returns-clause-layout c = any_ok c.open_inner.result (λ leaf. absurd (omega (arith, leaf, c.if-p-eq0.false)))

pub returns-clause-ends : goal.returns-clause-ends
returns-clause-ends c =
    let w = c.args.self.now in
    let seen : List ℕ = c.as_slice-bytes.result.now in
    ok_both c.open_inner.result c.open_inner.ensures.pushed c.open_inner.ensures.few
    (λ pushed few. inner_lighter w.tree.form.nodesize c.args.p.now.level w.pending.items c.open_inner.new.pending.items seen
    (pushes_as _ _ seen seen w.pending.items _ (ap (λ e. e.level) c.want-want.ensures) refl pushed)
    (λ inner. omega (arith, few, ap (λ (b : List ℕ). length b) c.as_slice-bytes.ensures.value, w.buffer)))
