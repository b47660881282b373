use Rattle.btr_check_sums.proofs.Imports.{◌<◌, ◌+◌, ◌*◌, ◌++◌, ◌∷◌, [], ℕ, refl, sym, ap, subst, ◌∙◌, arith, err_from_is_err_and, sum_count, Item, SumKind, Image, TellsPart, BreaksSums, HoldsDue, HoldsFirst, IsReady}
use Rattle.btr_check_sums.proofs.DueSteps.{item_begins, item_ends}
use Rattle.btr_check_sums.proofs.due_sum.DataPass.note_item.Goals as goal

pub loop-k-init : goal.loop-k-init
loop-k-init g c = record {
  kept = g.met.S.BlockSource.kept_refl c.args.src.now;
  same = refl;
  kind = refl;
  ready = c.requires.ready;
  holds = λ tells items key is holds. item_begins (g.S.BlockSource.blocks c.args.src.now) c.args.ranges.now c.args.self.now.kind items (key, c.args.body.now) c.args.self.now.due.items holds;
}

pub told_at-told-requires : goal.told_at-told-requires
told_at-told-requires g c =
    let kind : SumKind = c.args.self.now.kind in
    let count = c.sum_count-k-end.ensures (record { objectid = 0; kind = 0; offset = 0 }) in
    let low : c.loop-k.k < sum_count kind (record { objectid = 0; kind = 0; offset = 0 }, c.args.body.now) = omega (arith, count) in
    subst (λ (s : SumKind). c.loop-k.k < sum_count s (record { objectid = 0; kind = 0; offset = 0 }, c.args.body.now)) (sym c.loop-k.invariant.kind) low

pub loop-k-preserved : goal.loop-k-preserved
loop-k-preserved g c =
    let before = c.loop-k.invariant in
    record {
      kept = g.met.S.BlockSource.kept_trans _ _ _ before.kept c.note_sum.ensures.kept;
      same = c.in_ok-note_sum.ensures.cause.kept (λ e. absurd cc) ∙ before.same;
      kind = c.note_sum.ensures.kind ∙ before.kind;
      ready = subst (λ (n : ℕ). IsReady n c.args.ranges.now c.note_sum.new.self) (g.met.S.BlockSource.kept_size c.args.src.now c.loop-k.src before.kept) c.in_ok-note_sum.ensures.ready;
      holds = λ tells items key is holds.
          let here : Image = g.S.BlockSource.blocks c.args.src.now in
          let same = g.met.S.BlockSource.kept_blocks c.args.src.now c.loop-k.src tells before.kept in
          let i : Item = (key, c.args.body.now) in
          let first = subst (λ (s : SumKind). HoldsFirst here c.args.ranges.now s items i c.loop-k.k c.loop-k.self.due.items) (sym before.kind) (before.holds tells items key is holds) in
          let count = c.sum_count-k-end.ensures key in
          let low : c.loop-k.k < sum_count c.args.self.now.kind i = omega (arith, count) in
          let counted = subst (λ (s : SumKind). c.loop-k.k < sum_count s i) (sym before.kind) low in
          subst (λ (s : SumKind). HoldsFirst here c.args.ranges.now s items i (c.loop-k.k + 1) c.note_sum.new.self.due.items) before.kind
          (c.in_ok-note_sum.ensures.holds tells here same items i c.loop-k.k first counted (ap (λ (n : ℕ). n + 4096 * c.loop-k.k) (sym is)) c.told_at-told.ensures.sum);
    }

pub returns-in_err-note_sum-clause-holds : goal.returns-in_err-note_sum-clause-holds
returns-in_err-note_sum-clause-holds g c = λ tells image is items key at holds.
    let before = c.loop-k.invariant in
    let here : Image = g.S.BlockSource.blocks c.args.src.now in
    let same = g.met.S.BlockSource.kept_blocks c.args.src.now c.loop-k.src tells before.kept in
    let i : Item = (key, c.args.body.now) in
    let begun = subst (λ (m : Image). HoldsDue m c.args.ranges.now c.args.self.now.kind items c.args.self.now.due.items) (sym is) holds in
    let first = subst (λ (s : SumKind). HoldsFirst here c.args.ranges.now s items i c.loop-k.k c.loop-k.self.due.items) (sym before.kind) (before.holds tells items key at begun) in
    let count = c.sum_count-k-end.ensures key in
    let low : c.loop-k.k < sum_count c.args.self.now.kind i = omega (arith, count) in
    let counted = subst (λ (s : SumKind). c.loop-k.k < sum_count s i) (sym before.kind) low in
    let told = c.in_err-note_sum.ensures.holds tells here same items i c.loop-k.k first counted (ap (λ (n : ℕ). n + 4096 * c.loop-k.k) (sym at)) c.told_at-told.ensures.sum in
    let err = err_from_is_err_and c.from_residual.result c.from_residual.ensures.1 in
    rw err.1 (subst (λ (m : Image). TellsPart (BreaksSums m c.args.ranges.now c.args.self.now.kind (items ++ i ∷ [])) err.0) is
    (subst (TellsPart (BreaksSums here c.args.ranges.now c.args.self.now.kind (items ++ i ∷ []))) (sym err.2)
    (subst (λ (s : SumKind). TellsPart (BreaksSums here c.args.ranges.now s (items ++ i ∷ [])) c.in_err-note_sum.field-0.0) before.kind told)))

pub returns-clause-holds : goal.returns-clause-holds
returns-clause-holds g c = λ tells image is items key at holds.
    let before = c.loop-k.invariant in
    let here : Image = g.S.BlockSource.blocks c.args.src.now in
    let i : Item = (key, c.args.body.now) in
    let begun = subst (λ (m : Image). HoldsDue m c.args.ranges.now c.args.self.now.kind items c.args.self.now.due.items) (sym is) holds in
    let count = c.sum_count-k-end.ensures key in
    subst (λ (m : Image). HoldsDue m c.args.ranges.now c.args.self.now.kind (items ++ i ∷ []) c.loop-k.self.due.items) is
    (item_ends here c.args.ranges.now c.args.self.now.kind items i c.loop-k.k c.loop-k.self.due.items (before.holds tells items key at begun) (omega (arith, count)))
