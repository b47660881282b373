use Rattle.btr_tree_writer_tests.proofs.Imports.{◌≡◌, ◌+◌, ◌*◌, ◌≤◌, ℕ, List, ◌++◌, ◌∷◌, [], All, ◌∙◌, ap, sym, subst, refl, arith, map, range_with_len, Holds, next_order, numbered_item, one_more, not_true, same_twice}
use Rattle.btr_keys.specs.declared.key.Key.{Key}
use Rattle.btr_reader_walk.specs.btr_node.Leaf.{Item, keys_of}
use Rattle.btr_reader_walk.specs.btr_node.Order.{Ascends}
use Rattle.btr_reader_walk.specs.declared.tree.Form.{Form}
use Rattle.btr_tree_writer_tests.proofs.building.push_numbered.Goals as goal

pub loop-number-init : goal.loop-number-init
loop-number-init g c = record {
  within = omega arith;
  unspent = c.requires.unspent;
  going = c.requires.going;
  stands = c.requires.stands;
  holds = c.requires.empty;
  same = record { form = refl; owner = refl; generation = refl; slots = refl; offsets = refl; chunk_tree = refl };
  open_ = refl;
  size = refl;
}

pub push-requires-clause-ready : goal.push-requires-clause-ready
push-requires-clause-ready g c = (_, c.loop-number.invariant.holds)

pub push-requires-clause-order : goal.push-requires-clause-order
push-requires-clause-order g c =
    subst (λ (k : Key). Ascends (keys_of c.loop-number.tree.made.draft.items ++ k ∷ [])) (sym c.key.ensures)
    (next_order c.loop-number.tree c.args.body.now c.loop-number.number c.loop-number.invariant.holds)

pub push-requires-clause-small : goal.push-requires-clause-small
push-requires-clause-small g c = omega (arith, c.requires.small, ap (λ (f : Form). f.nodesize) c.loop-number.invariant.same.form)

pub push-requires-clause-in_range : goal.push-requires-clause-in_range
push-requires-clause-in_range g c =
    let before = c.loop-number.invariant in
    subst (λ (n : ℕ). All (λ a. a + c.loop-number.tree.made.form.nodesize ≤ 4096 * n) c.loop-number.tree.made.offsets) (sym before.size)
    (subst (λ (s : List ℕ). All (λ a. a + c.loop-number.tree.made.form.nodesize ≤ 4096 * g.D.BlockSource.size c.args.disk.now) s) (sym before.same.offsets)
    (subst (λ (f : Form). All (λ a. a + f.nodesize ≤ 4096 * g.D.BlockSource.size c.args.disk.now) c.args.tree.now.made.offsets) (sym before.same.form) c.requires.in_range))

pub loop-number-preserved : goal.loop-number-preserved
loop-number-preserved g c =
    let before = c.loop-number.invariant in
    record {
      within = omega (arith, c.loop-number-test.true);
      unspent = not_true _ c.in_ok-push.ensures.spent.0;
      going = c.push.ensures.going;
      stands = λ tells. c.in_ok-push.ensures.stands tells;
      holds =
          subst (λ (items : List Item). Holds c.push.new.self items) (one_more c.args.body.now c.loop-number.number)
          (subst (λ (k : Key). Holds c.push.new.self (map (numbered_item c.args.body.now) (range_with_len 0 c.loop-number.number) ++ (k, c.args.body.now) ∷ [])) c.key.ensures (c.in_ok-push.ensures.holds _ before.holds));
      same = same_twice _ _ _ before.same c.in_ok-push.ensures.same;
      open_ = c.push.ensures.open ∙ before.open_;
      size = c.push.ensures.size ∙ before.size;
    }

pub returns-clause-holds : goal.returns-clause-holds
returns-clause-holds g c =
    let before = c.loop-number.invariant in
    let end : c.loop-number.number ≡ c.args.count = omega (arith, before.within, c.loop-number-test.false) in
    subst (λ (n : ℕ). Holds c.loop-number.tree (map (numbered_item c.args.body.now) (range_with_len 0 n))) end before.holds
