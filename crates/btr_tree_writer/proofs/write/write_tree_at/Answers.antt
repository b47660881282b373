use Rattle.btr_tree_writer.proofs.Imports.{◌≡◌, ℕ, ◌*◌, ◌++◌, ◌∷◌, [], List, Err, length, refl, sym, ◌∙◌, ap, subst, IsTrue, History, Image, reads, WritesOnly, writes_none, writes_then, Item, Counted, capacity, lengths_of, IsWholeTree, IsInSlots, AreWritable, read_form, TreeStandsBy, pointer_of_root, StandsOn, WriteAnswer}
use Rattle.btr_tree.specs.outside.declared.disk.Access.TheVariants.{Write}
use Rattle.btr_tree_writer.proofs.Steps.{source_cause, source_fails, answer_fails, same_where, only_of, range_of, falls, next_of, pushed_of, last_of, answer_cause, ok_cause}
use Rattle.btr_tree_writer.proofs.write.write_tree_at.Goals as goal

pub loop-writer-init : goal.loop-writer-init
loop-writer-init g c = record {
  open_ = refl;
  size = refl;
  borrow = refl;
  same = refl;
  only = λ tells. writes_none (λ b _. IsInSlots c.args.form.nodesize c.args.slots.offsets b) _;
  live = c.requires.live;
  reach = refl;
  needs = λ b needed. needed;
  chunk_tree = c.in_ok-writer.ensures.chunk_tree;
  items = [];
  writes = c.in_ok-writer.ensures.writes;
  stands = λ tells. c.in_ok-writer.ensures.stands _;
  ahead = λ tells image is fits apart.
      (subst (λ (i : Image). g.I.ItemSource.fits c.args.items.now i) (sym is) fits, ap (λ (i : Image). g.I.ItemSource.ahead c.args.items.now i) is);
}

pub returns-in_err-advance-clause-tree : goal.returns-in_err-advance-clause-tree
returns-in_err-advance-clause-tree g c = λ ranges maps tells image is fits apart all are writable.
    let told = c.loop-writer.invariant.ahead tells image is fits apart in
    source_fails c.from_residual-in_err-advance.result c.in_err-advance.field-0.0 _ c.from_residual-in_err-advance.ensures.1 (c.in_err-advance.ensures.next tells _ refl told.0)

pub returns-in_err-advance-clause-open : goal.returns-in_err-advance-clause-open
returns-in_err-advance-clause-open g c = g.met.D.Disk.kept_opened c.loop-writer.disk c.advance.new.src c.advance.ensures.kept ∙ c.loop-writer.invariant.open_

pub returns-in_err-advance-clause-size : goal.returns-in_err-advance-clause-size
returns-in_err-advance-clause-size g c = g.met.D.BlockSource.kept_size c.loop-writer.disk c.advance.new.src c.advance.ensures.kept ∙ c.loop-writer.invariant.size

pub returns-in_err-advance-clause-borrow : goal.returns-in_err-advance-clause-borrow
returns-in_err-advance-clause-borrow g c = g.met.D.Disk.kept_borrow c.loop-writer.disk c.advance.new.src c.advance.ensures.kept ∙ c.loop-writer.invariant.borrow

pub returns-in_err-advance-clause-only : goal.returns-in_err-advance-clause-only
returns-in_err-advance-clause-only g c = λ tells.
    subst (λ (h : History). WritesOnly (λ b _. IsInSlots c.args.form.nodesize c.args.slots.offsets b) (g.D.Disk.history c.args.disk.now) h)
    (sym (g.met.D.Disk.kept_history c.loop-writer.disk c.advance.new.src tells c.advance.ensures.kept)) (c.loop-writer.invariant.only tells)

pub returns-in_err-advance-clause-cause : goal.returns-in_err-advance-clause-cause
returns-in_err-advance-clause-cause g c =
    source_cause c.from_residual-in_err-advance.result c.in_err-advance.field-0.0 _ _ _ c.loop-writer.invariant.same c.from_residual-in_err-advance.ensures.1 c.in_err-advance.ensures.cause

pub push-requires-clause-stands : goal.push-requires-clause-stands
push-requires-clause-stands g c = λ tells. (
  c.loop-writer.invariant.items,
  subst (λ (h : History). StandsOn c.loop-writer.writer (reads h) c.loop-writer.invariant.items) (sym (g.met.D.Disk.kept_history c.loop-writer.disk c.advance.new.src tells c.advance.ensures.kept))
      (c.loop-writer.invariant.stands tells),
)

pub push-requires-clause-open : goal.push-requires-clause-open
push-requires-clause-open g c = g.met.D.Disk.kept_opened c.loop-writer.disk c.advance.new.src c.advance.ensures.kept ∙ (c.loop-writer.invariant.open_ ∙ c.requires.open)

pub push-requires-clause-in_range : goal.push-requires-clause-in_range
push-requires-clause-in_range g c =
    range_of _ (read_form c.args.form) _ c.args.slots.offsets _ (g.D.BlockSource.size c.args.disk.now) c.loop-writer.invariant.writes.form_is c.loop-writer.invariant.writes.offsets_are
    (g.met.D.BlockSource.kept_size c.loop-writer.disk c.advance.new.src c.advance.ensures.kept ∙ c.loop-writer.invariant.size) c.requires.in_range

pub loop-writer-smaller : goal.loop-writer-smaller
loop-writer-smaller g c =
    let now = c.in_ok-push.ensures.writes _ _ _ _ _ c.loop-writer.invariant.writes in
    falls (capacity c.args.form.nodesize * length c.args.slots.addresses) _ _ _ c.in_ok-push.ensures.more now.counted.total now.room

pub loop-writer-preserved : goal.loop-writer-preserved
loop-writer-preserved g c =
    let before = c.loop-writer.invariant in
    let kept = c.advance.ensures.kept in
    let held : IsTrue g.D.BlockSource.tells → g.D.Disk.history c.advance.new.src ≡ g.D.Disk.history c.loop-writer.disk = λ tells. g.met.D.Disk.kept_history c.loop-writer.disk c.advance.new.src tells kept in
    let item : Item = (c.key.result, c.body.result.now) in
    let pushed_only : IsTrue g.D.BlockSource.tells → WritesOnly (λ b _. IsInSlots c.args.form.nodesize c.args.slots.offsets b) (g.D.Disk.history c.advance.new.src) (g.D.Disk.history c.push.new.disk) = λ tells. only_of _ (read_form c.args.form) _ c.args.slots.offsets _ _ before.writes.form_is before.writes.offsets_are (c.in_ok-push.ensures.only tells) in
    let opened = g.met.D.Disk.kept_opened c.loop-writer.disk c.advance.new.src kept ∙ before.open_ in
    record {
      open_ = c.in_ok-push.ensures.open ∙ opened;
      size = c.in_ok-push.ensures.size ∙ (g.met.D.BlockSource.kept_size c.loop-writer.disk c.advance.new.src kept ∙ before.size);
      borrow = c.in_ok-push.ensures.borrow ∙ (g.met.D.Disk.kept_borrow c.loop-writer.disk c.advance.new.src kept ∙ before.borrow);
      same = c.in_ok-push.ensures.cause.kept (λ e. absurd cc) ∙ (c.in_ok-advance.ensures.cause.kept (λ e. absurd cc) ∙ before.same);
      only = λ tells.
          writes_then (λ b _. IsInSlots c.args.form.nodesize c.args.slots.offsets b) _ _ _
          (subst (λ (h : History). WritesOnly (λ b _. IsInSlots c.args.form.nodesize c.args.slots.offsets b) (g.D.Disk.history c.args.disk.now) h) (sym (held tells)) (before.only tells)) (pushed_only tells);
      live = c.in_ok-advance.ensures.live;
      reach = c.advance.ensures.reach ∙ before.reach;
      needs = λ b needed. before.needs b (c.advance.ensures.needs b needed);
      chunk_tree = c.in_ok-push.ensures.chunk_tree ∙ before.chunk_tree;
      items = before.items ++ item ∷ [];
      writes = c.in_ok-push.ensures.writes _ _ _ _ _ before.writes;
      stands = λ tells. c.in_ok-push.ensures.stands before.items tells (subst (λ (h : History). StandsOn c.loop-writer.writer (reads h) before.items) (sym (held tells)) (before.stands tells));
      ahead = λ tells image is fits apart.
          let told = before.ahead tells image is fits apart in
          let came = rw c.if-branch.true at (c.in_ok-advance.ensures.next tells _ refl told.0) in
          let blocks = g.D.BlockSource.blocks c.loop-writer.disk in
          let new = g.D.BlockSource.blocks c.push.new.disk in
          let rest : List Item = g.I.ItemSource.ahead c.advance.new.self blocks in
          let next = next_of before.items (g.I.ItemSource.ahead c.loop-writer.items blocks) rest _ came.1.0 c.key.result c.body.result.now told.1 came.1.2 (c.key.ensures came.1.0 came.1.1) (c.body.ensures came.1.0 came.1.1) in
          let outside =
          same_where (g.I.ItemSource.needs c.advance.new.self) c.args.form.nodesize c.args.slots.offsets (g.D.Disk.history c.advance.new.src) (g.D.Disk.history c.push.new.disk) blocks new
          (g.met.D.Disk.open_blocks c.loop-writer.disk Write tells (before.open_ ∙ c.requires.open) ∙ sym (ap reads (held tells)))
          (g.met.D.Disk.open_blocks c.push.new.disk Write tells (c.in_ok-push.ensures.open ∙ (opened ∙ c.requires.open)))
          (pushed_only tells) (λ b needed. apart b (before.needs b (c.advance.ensures.needs b needed))) in
          let stable = g.met.I.ItemSource.stays c.advance.new.self blocks new outside came.0 in (
            stable.0,
            ap (λ (is : List Item). (before.items ++ item ∷ []) ++ is) stable.1 ∙ pushed_of before.items rest _ item next,
          );
    }

pub returns-in_err-push-clause-tree : goal.returns-in_err-push-clause-tree
returns-in_err-push-clause-tree g c = λ ranges maps tells image is fits apart all are writable.
    let before = c.loop-writer.invariant in
    let told = before.ahead tells image is fits apart in
    let came = rw c.if-branch.true at (c.in_ok-advance.ensures.next tells _ refl told.0) in
    let blocks = g.D.BlockSource.blocks c.loop-writer.disk in
    let rest : List Item = g.I.ItemSource.ahead c.advance.new.self blocks in
    let next = next_of before.items (g.I.ItemSource.ahead c.loop-writer.items blocks) rest all came.1.0 c.key.result c.body.result.now (told.1 ∙ are) came.1.2 (c.key.ensures came.1.0 came.1.1) (c.body.ensures came.1.0 came.1.1) in
    answer_fails c.from_residual-in_err-push.result c.in_err-push.field-0.0 _ c.from_residual-in_err-push.ensures.1 c.in_err-push.ensures.answers
    (λ misfit.
    c.in_err-push.ensures.misfit _ _ _ _ _ rest before.writes (ap (λ (a : WriteAnswer). Err a) misfit)
    (subst (λ (is : List Item). AreWritable c.args.form.nodesize c.args.slots.addresses is) (sym next) writable))

pub returns-in_err-push-clause-open : goal.returns-in_err-push-clause-open
returns-in_err-push-clause-open g c = c.push.ensures.open ∙ (g.met.D.Disk.kept_opened c.loop-writer.disk c.advance.new.src c.advance.ensures.kept ∙ c.loop-writer.invariant.open_)

pub returns-in_err-push-clause-size : goal.returns-in_err-push-clause-size
returns-in_err-push-clause-size g c = c.push.ensures.size ∙ (g.met.D.BlockSource.kept_size c.loop-writer.disk c.advance.new.src c.advance.ensures.kept ∙ c.loop-writer.invariant.size)

pub returns-in_err-push-clause-borrow : goal.returns-in_err-push-clause-borrow
returns-in_err-push-clause-borrow g c = c.push.ensures.borrow ∙ (g.met.D.Disk.kept_borrow c.loop-writer.disk c.advance.new.src c.advance.ensures.kept ∙ c.loop-writer.invariant.borrow)

pub returns-in_err-push-clause-only : goal.returns-in_err-push-clause-only
returns-in_err-push-clause-only g c = λ tells.
    let before = c.loop-writer.invariant in
    writes_then (λ b _. IsInSlots c.args.form.nodesize c.args.slots.offsets b) _ _ _
    (subst (λ (h : History). WritesOnly (λ b _. IsInSlots c.args.form.nodesize c.args.slots.offsets b) (g.D.Disk.history c.args.disk.now) h)
    (sym (g.met.D.Disk.kept_history c.loop-writer.disk c.advance.new.src tells c.advance.ensures.kept)) (before.only tells))
    (only_of _ (read_form c.args.form) _ c.args.slots.offsets _ _ before.writes.form_is before.writes.offsets_are (c.push.ensures.only tells))

pub returns-in_err-push-clause-cause : goal.returns-in_err-push-clause-cause
returns-in_err-push-clause-cause g c =
    answer_cause c.from_residual-in_err-push.result c.in_err-push.field-0.0 _ _ _ (c.in_ok-advance.ensures.cause.kept (λ e. absurd cc) ∙ c.loop-writer.invariant.same) c.from_residual-in_err-push.ensures.1 c.in_err-push.ensures.cause

pub finish-requires-clause-stands : goal.finish-requires-clause-stands
finish-requires-clause-stands g c = λ tells. (
  c.loop-writer.invariant.items,
  subst (λ (h : History). StandsOn c.loop-writer.writer (reads h) c.loop-writer.invariant.items) (sym (g.met.D.Disk.kept_history c.loop-writer.disk c.advance.new.src tells c.advance.ensures.kept))
      (c.loop-writer.invariant.stands tells),
)

pub finish-requires-clause-open : goal.finish-requires-clause-open
finish-requires-clause-open g c = g.met.D.Disk.kept_opened c.loop-writer.disk c.advance.new.src c.advance.ensures.kept ∙ (c.loop-writer.invariant.open_ ∙ c.requires.open)

pub finish-requires-clause-in_range : goal.finish-requires-clause-in_range
finish-requires-clause-in_range g c =
    range_of _ (read_form c.args.form) _ c.args.slots.offsets _ (g.D.BlockSource.size c.args.disk.now) c.loop-writer.invariant.writes.form_is c.loop-writer.invariant.writes.offsets_are
    (g.met.D.BlockSource.kept_size c.loop-writer.disk c.advance.new.src c.advance.ensures.kept ∙ c.loop-writer.invariant.size) c.requires.in_range

pub returns-in_err-root-clause-tree : goal.returns-in_err-root-clause-tree
returns-in_err-root-clause-tree g c = λ ranges maps tells image is fits apart all are writable.
    let before = c.loop-writer.invariant in
    let told = before.ahead tells image is fits apart in
    let came = rw c.if-branch.false at (c.in_ok-advance.ensures.next tells _ refl told.0) in
    let last = last_of before.items _ all (told.1 ∙ are) came.1.0 in
    answer_fails c.from_residual-in_err-root.result c.in_err-root.field-0.0 _ c.from_residual-in_err-root.ensures.1 c.in_err-root.ensures.answers
    (λ misfit.
    c.in_err-root.ensures.misfit _ _ _ _ _ before.writes (ap (λ (a : WriteAnswer). Err a) misfit)
    (subst (λ (is : List Item). AreWritable c.args.form.nodesize c.args.slots.addresses is) (sym last) writable))

pub returns-in_err-root-clause-open : goal.returns-in_err-root-clause-open
returns-in_err-root-clause-open g c = c.finish.ensures.open ∙ (g.met.D.Disk.kept_opened c.loop-writer.disk c.advance.new.src c.advance.ensures.kept ∙ c.loop-writer.invariant.open_)

pub returns-in_err-root-clause-size : goal.returns-in_err-root-clause-size
returns-in_err-root-clause-size g c = c.finish.ensures.size ∙ (g.met.D.BlockSource.kept_size c.loop-writer.disk c.advance.new.src c.advance.ensures.kept ∙ c.loop-writer.invariant.size)

pub returns-in_err-root-clause-borrow : goal.returns-in_err-root-clause-borrow
returns-in_err-root-clause-borrow g c = c.finish.ensures.borrow ∙ (g.met.D.Disk.kept_borrow c.loop-writer.disk c.advance.new.src c.advance.ensures.kept ∙ c.loop-writer.invariant.borrow)

pub returns-in_err-root-clause-only : goal.returns-in_err-root-clause-only
returns-in_err-root-clause-only g c = λ tells.
    let before = c.loop-writer.invariant in
    writes_then (λ b _. IsInSlots c.args.form.nodesize c.args.slots.offsets b) _ _ _
    (subst (λ (h : History). WritesOnly (λ b _. IsInSlots c.args.form.nodesize c.args.slots.offsets b) (g.D.Disk.history c.args.disk.now) h)
    (sym (g.met.D.Disk.kept_history c.loop-writer.disk c.advance.new.src tells c.advance.ensures.kept)) (before.only tells))
    (only_of _ (read_form c.args.form) _ c.args.slots.offsets _ _ before.writes.form_is before.writes.offsets_are (c.finish.ensures.only tells))

pub returns-in_err-root-clause-cause : goal.returns-in_err-root-clause-cause
returns-in_err-root-clause-cause g c =
    answer_cause c.from_residual-in_err-root.result c.in_err-root.field-0.0 _ _ _ (c.in_ok-advance.ensures.cause.kept (λ e. absurd cc) ∙ c.loop-writer.invariant.same) c.from_residual-in_err-root.ensures.1 c.in_err-root.ensures.cause

pub returns-clause-tree : goal.returns-clause-tree
returns-clause-tree g c = λ ranges maps tells image is fits apart all are writable.
    let before = c.loop-writer.invariant in
    let told = before.ahead tells image is fits apart in
    let came = rw c.if-branch.false at (c.in_ok-advance.ensures.next tells _ refl told.0) in
    let last = last_of before.items _ all (told.1 ∙ are) came.1.0 in
    let stands = subst (λ (h : History). StandsOn c.loop-writer.writer (reads h) before.items) (sym (g.met.D.Disk.kept_history c.loop-writer.disk c.advance.new.src tells c.advance.ensures.kept)) (before.stands tells) in
    let tree = c.in_ok-root.ensures.tree _ _ _ _ _ ranges maps tells before.writes stands in
    let counted = c.in_ok-root.ensures.counted _ _ _ _ _ before.writes in
    let now : Image = reads (g.D.Disk.history c.finish.new.disk) in (
      subst (λ (is : List Item). TreeStandsBy now ranges (read_form c.args.form) c.args.generation c.args.owner c.args.slots.addresses is c.in_ok-root.root) last tree,
      subst (λ (is : List Item). Counted c.in_ok-root.counter (lengths_of is)) last counted.counted,
    )

pub returns-clause-counted : goal.returns-clause-counted
returns-clause-counted g c =
    let counted = c.in_ok-root.ensures.counted _ _ _ _ _ c.loop-writer.invariant.writes in (lengths_of c.loop-writer.invariant.items, counted.counted, counted.count)

pub returns-clause-size_is : goal.returns-clause-size_is
returns-clause-size_is g c =
    let counted = c.in_ok-root.ensures.counted _ _ _ _ _ c.loop-writer.invariant.writes in counted.size

pub returns-clause-few : goal.returns-clause-few
returns-clause-few g c =
    let counted = c.in_ok-root.ensures.counted _ _ _ _ _ c.loop-writer.invariant.writes in counted.few

pub returns-clause-open : goal.returns-clause-open
returns-clause-open g c = c.finish.ensures.open ∙ (g.met.D.Disk.kept_opened c.loop-writer.disk c.advance.new.src c.advance.ensures.kept ∙ c.loop-writer.invariant.open_)

pub returns-clause-size : goal.returns-clause-size
returns-clause-size g c = c.finish.ensures.size ∙ (g.met.D.BlockSource.kept_size c.loop-writer.disk c.advance.new.src c.advance.ensures.kept ∙ c.loop-writer.invariant.size)

pub returns-clause-borrow : goal.returns-clause-borrow
returns-clause-borrow g c = c.finish.ensures.borrow ∙ (g.met.D.Disk.kept_borrow c.loop-writer.disk c.advance.new.src c.advance.ensures.kept ∙ c.loop-writer.invariant.borrow)

pub returns-clause-only : goal.returns-clause-only
returns-clause-only g c = λ tells.
    let before = c.loop-writer.invariant in
    writes_then (λ b _. IsInSlots c.args.form.nodesize c.args.slots.offsets b) _ _ _
    (subst (λ (h : History). WritesOnly (λ b _. IsInSlots c.args.form.nodesize c.args.slots.offsets b) (g.D.Disk.history c.args.disk.now) h)
    (sym (g.met.D.Disk.kept_history c.loop-writer.disk c.advance.new.src tells c.advance.ensures.kept)) (before.only tells))
    (only_of _ (read_form c.args.form) _ c.args.slots.offsets _ _ before.writes.form_is before.writes.offsets_are (c.finish.ensures.only tells))

pub returns-clause-cause : goal.returns-clause-cause
returns-clause-cause g c = ok_cause _ _ _ (c.in_ok-root.ensures.cause.kept (λ e. absurd cc) ∙ (c.in_ok-advance.ensures.cause.kept (λ e. absurd cc) ∙ c.loop-writer.invariant.same))

pub returns-clause-whole : goal.returns-clause-whole
returns-clause-whole g c = λ ranges maps tells.
    let before = c.loop-writer.invariant in
    subst (λ (chunk_tree : List ℕ). IsWholeTree (reads (g.D.Disk.history c.finish.new.disk)) ranges (read_form c.args.form) c.args.owner chunk_tree (pointer_of_root c.args.generation c.in_ok-root.root)) before.chunk_tree
    (c.in_ok-root.ensures.whole _ _ _ _ _ ranges maps tells before.writes)
