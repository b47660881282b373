use Rattle.reiser_volume_files.proofs.Imports.{◌≡◌, ◌-◌, ◌+◌, ◌*◌, ◌/◌, ◌∙◌, ◌<◌, ℕ, min, length, refl, sym, ap, subst, arith, div_ceil, block_at, ReplacesBlock, held_same, joined_at, joined_start}
use Rattle.reiser_volume_files.proofs.Pointing.{pointer_inside}
use Rattle.reiser_volume_files.proofs.Steps.{hole_passed, block_replaces, pointers_end}
use Rattle.reiser_volume_files.proofs.marker.FileMarker.put_pointers.Goals as goal

pub put_pointer-requires-clause-inside : goal.put_pointer-requires-clause-inside
put_pointer-requires-clause-inside g c = λ some.
    let within : c.loop-j.j < length c.args.body.now / 4 = omega (arith, c.loop-j-test.true, c.count_below-j-end.ensures) in
    let low = pointer_inside c.args.body.now (g.S.BlockSource.size c.args.src.now) c.loop-j.j c.requires.inside within (λ none. some (c.pointer.ensures ∙ none)) in
    omega (arith, low, c.pointer.ensures, g.met.S.BlockSource.kept_size c.args.src.now c.loop-j.src c.loop-j.invariant.kept)

pub put_pointer-requires-clause-fits : goal.put_pointer-requires-clause-fits
put_pointer-requires-clause-fits g c = omega (arith, c.loop-j.invariant.size, c.loop-j-test.true, c.count_below-j-end.ensures, c.block_count.ensures.bytes, c.size.ensures)

pub loop-j-init : goal.loop-j-init
loop-j-init g c = record {
  kept = g.met.S.BlockSource.kept_refl _;
  same = refl;
  size = refl;
  next = λ h. omega (arith, h);
  none = λ h. refl;
  bytes = λ tells image is f g' over low held.
      held_same c.args.self.now.file f (joined_at (4096 * (c.args.first + 0)) g' f) (joined_start (4096 * (c.args.first + 0)) g' f (λ n h. over.below n (omega (arith, h)))) held;
}

pub loop-j-preserved : goal.loop-j-preserved
loop-j-preserved g c =
    let before = c.loop-j.invariant in
    let within : c.loop-j.j < length c.args.body.now / 4 = omega (arith, c.loop-j-test.true, c.count_below-j-end.ensures) in
    record {
      kept = g.met.S.BlockSource.kept_trans _ _ _ before.kept c.put_pointer.ensures.kept;
      same = c.in_ok-put_pointer.ensures.cause.kept ∙ before.same;
      size = c.put_pointer.ensures.size ∙ before.size;
      next = λ h. omega (arith, c.put_pointer.ensures.next (before.next h));
      none = λ h. absurd (omega (arith, within, h));
      bytes = λ tells image is f g' over low held.
          let same = g.met.S.BlockSource.kept_blocks c.args.src.now c.loop-j.src tells before.kept ∙ is in
          c.in_ok-put_pointer.ensures.bytes tells image same (joined_at (4096 * (c.args.first + c.loop-j.j)) g' f) (joined_at (4096 * (c.args.first + (c.loop-j.j + 1))) g' f)
          (λ none. hole_passed image c.args.self.now.file.size c.args.first c.args.body.now f g' c.loop-j.j over within (sym c.pointer.ensures ∙ none))
          (λ some.
          let replaces =
          block_replaces image c.args.self.now.file.size c.args.first c.args.body.now f g' c.loop-j.j c.pointer.result over within (sym c.pointer.ensures) some in
          subst (λ (size : ℕ). ReplacesBlock size (c.args.first + c.loop-j.j) (block_at image c.pointer.result) (joined_at (4096 * (c.args.first + c.loop-j.j)) g' f) (joined_at (4096 * (c.args.first + (c.loop-j.j + 1))) g' f)) (sym before.size) replaces)
          (before.next low) (before.bytes tells image is f g' over low held);
    }

pub returns-clause-bytes : goal.returns-clause-bytes
returns-clause-bytes g c = λ tells image is f g' over low held.
    let count : c.loop-j.j ≡ c.count_below-j-end.result = omega (arith, c.loop-j-test.false, c.loop-j.auto.j-end) in
    held_same c.loop-j.self.file _ g' (pointers_end image c.args.self.now.file.size c.args.first c.loop-j.j c.args.body.now f g' over (count ∙ (c.count_below-j-end.ensures ∙ ap (λ (d : ℕ). min (length c.args.body.now / 4) (d - c.args.first)) (c.block_count.ensures.exact ∙ ap (λ (s : ℕ). div_ceil s 4096) c.size.ensures))))
    (c.loop-j.invariant.bytes tells image is f g' over low held)
