use Rattle.rollback_core.proofs.Imports.{◌≡◌, ◌≢◌, ◌≤◌, ◌+◌, ◌==◌, ◌&&◌, [], ◌∷◌, ◌++◌, ℕ, List, Bool, true, not, All, map, filter, length, refl, sym, ◌∙◌, ap, subst, arith, nat_tests, block_at, is_reserved, used_blocks, Saved}
use Rattle.rollback_core.proofs.Marked.{all_below, both_no, both_yes, each_marked, go_apart, next_high, next_low, next_marked, same_below, used_below}
use Rattle.rollback_core.proofs.saved.read_reserved.Goals as goal
use Rattle.rollback_core.proofs.saved.read_reserved.Goals.{then-is_saved+in_ok-save, else-is_saved}

abbrev other_than : ℕ → Bool
other_than b = not (b == 16)

abbrev reserved_in : List Bool → ℕ → Bool
reserved_in used b = is_reserved b (length used)

abbrev numbers_below : List Bool → ℕ → List ℕ
numbers_below used n = filter other_than (filter (reserved_in used) (used_below used n))

pub loop-at-init : goal.loop-at-init
loop-at-init g c =
    let used = c.args.used.now in
    let is = c.next_used-at.ensures in
    let order : 0 ≤ c.len-end.result = omega arith in
    record {
      inside = next_high used 0 c.len-end.result c.next_used-at.result order is;
      all = c.len-end.ensures;
      marked = next_marked used 0 c.len-end.result c.next_used-at.result order is;
      kept = g.met.S.BlockSource.kept_refl _;
      same = refl;
      numbers =
          ap (map (λ (s : Saved). s.at)) c.new-saved.ensures.items
          ∙ ap (λ (bs : List ℕ). filter other_than (filter (reserved_in used) bs)) (sym (same_below used 0 c.len-end.result c.next_used-at.result order is));
      blocks = λ tells image is_image. subst (All (λ (s : Saved). s.block.bytes ≡ block_at image s.at)) (sym c.new-saved.ensures.items) (λ k d below. absurd (omega (arith, below)));
    }

pub loop-at-smaller : goal.loop-at-smaller
loop-at-smaller g c =
    let low = next_low c.args.used.now (c.loop-at.at + 1) c.len-end.result c.next_used-at-in-loop-at.result (omega (arith, c.loop-at-test.true)) c.next_used-at-in-loop-at.ensures in
    omega (arith, low, c.loop-at-test.true)

-- the test by the number of the set's blocks
by_length : (used : List Bool) (at end : ℕ) (t : Bool) → end ≡ length used → t ≡ (not (at == 16) && is_reserved at end) → t ≡ (other_than at && reserved_in used at)
by_length used at end t all is = is ∙ ap (λ (n : ℕ). not (at == 16) && is_reserved at n) all

pub loop-at-preserved : goal.loop-at-preserved
loop-at-preserved g c =
    let used = c.args.used.now in
    let is = c.next_used-at-in-loop-at.ensures in
    let order : c.loop-at.at + 1 ≤ c.len-end.result = omega (arith, c.loop-at-test.true) in
    let before = c.loop-at.invariant in
    let marked = before.marked c.loop-at-test.true in
    let test = by_length used c.loop-at.at c.len-end.result c.is_saved.result before.all c.is_saved.ensures in
    record {
      inside = next_high used (c.loop-at.at + 1) c.len-end.result c.next_used-at-in-loop-at.result order is;
      all = before.all;
      marked = next_marked used (c.loop-at.at + 1) c.len-end.result c.next_used-at-in-loop-at.result order is;
      kept = elim c.if-is_saved.branch [
        | then-is_saved+in_ok-save w ↦ subst (g.S.BlockSource.kept c.args.src.now) (sym w.src-is) (g.met.S.BlockSource.kept_trans _ _ _ before.kept w.save.ensures.kept)
        | else-is_saved w ↦ subst (g.S.BlockSource.kept c.args.src.now) (sym w.src-is) before.kept
      ];
      same = elim c.if-is_saved.branch [
        | then-is_saved+in_ok-save w ↦ ap g.S.BlockSource.faults w.src-is ∙ (w.in_ok-save.ensures.cause.kept (λ e. absurd cc) ∙ before.same)
        | else-is_saved w ↦ ap g.S.BlockSource.faults w.src-is ∙ before.same
      ];
      numbers = elim c.if-is_saved.branch [
        | then-is_saved+in_ok-save w ↦
            ap (λ v. map (λ (s : Saved). s.at) v.items) w.saved-is ∙ (w.in_ok-save.ensures.numbers
            ∙ (ap (λ (bs : List ℕ). bs ++ c.loop-at.at ∷ []) before.numbers
            ∙ sym (both_yes (reserved_in used) other_than used c.loop-at.at c.len-end.result c.next_used-at-in-loop-at.result c.loop-at-test.true marked is (sym test ∙ w.if-is_saved.true))))
        | else-is_saved w ↦
            ap (λ v. map (λ (s : Saved). s.at) v.items) w.saved-is ∙ (before.numbers
            ∙ sym (both_no (reserved_in used) other_than used c.loop-at.at c.len-end.result c.next_used-at-in-loop-at.result c.loop-at-test.true marked is (sym test ∙ w.if-is_saved.false)))
      ];
      blocks = λ tells image is_image.
          let here : g.S.BlockSource.blocks c.loop-at.src ≡ image = g.met.S.BlockSource.kept_blocks _ _ tells before.kept ∙ is_image in
          elim c.if-is_saved.branch [
            | then-is_saved+in_ok-save w ↦ subst (λ v. All (λ (s : Saved). s.block.bytes ≡ block_at image s.at) v.items) (sym w.saved-is) (w.in_ok-save.ensures.blocks tells image here (before.blocks tells image is_image))
            | else-is_saved w ↦ subst (λ v. All (λ (s : Saved). s.block.bytes ≡ block_at image s.at) v.items) (sym w.saved-is) (before.blocks tells image is_image)
          ];
    }

-- all of them, at the end of the loop
all_numbers : (used : List Bool) (at end : ℕ) (saved : List Saved) → at ≤ end → end ≤ at → end ≡ length used → map (λ s. s.at) saved ≡ numbers_below used at → map (λ s. s.at) saved ≡ filter other_than (filter (reserved_in used) (used_blocks used))
all_numbers used at end saved low high all numbers =
    let at_end : at ≡ length used = omega (arith, low, high, all) in
    numbers ∙ (ap (numbers_below used) at_end ∙ ap (λ (bs : List ℕ). filter other_than (filter (reserved_in used) bs)) (all_below used))

not_16 : (b : ℕ) → other_than b ≡ true → b ≢ 16
not_16 b passes = grind (arith, nat_tests, passes)

pub returns-clause-apart : goal.returns-clause-apart
returns-clause-apart g c =
    go_apart (reserved_in c.args.used.now) other_than c.args.used.now c.loop-at.saved.items
    (all_numbers c.args.used.now c.loop-at.at c.len-end.result c.loop-at.saved.items c.loop-at.invariant.inside c.loop-at-test.false c.loop-at.invariant.all c.loop-at.invariant.numbers)

pub returns-clause-marked : goal.returns-clause-marked
returns-clause-marked g c = λ k d below.
    let each =
    each_marked (reserved_in c.args.used.now) other_than c.args.used.now c.loop-at.saved.items
    (all_numbers c.args.used.now c.loop-at.at c.len-end.result c.loop-at.saved.items c.loop-at.invariant.inside c.loop-at-test.false c.loop-at.invariant.all c.loop-at.invariant.numbers) k d below in
    (each.0, not_16 _ each.1.1)

pub returns-clause-saved : goal.returns-clause-saved
returns-clause-saved g c = λ tells image is. record {
  numbers_are = all_numbers c.args.used.now c.loop-at.at c.len-end.result c.loop-at.saved.items c.loop-at.invariant.inside c.loop-at-test.false c.loop-at.invariant.all c.loop-at.invariant.numbers;
  blocks = c.loop-at.invariant.blocks tells image is;
}
