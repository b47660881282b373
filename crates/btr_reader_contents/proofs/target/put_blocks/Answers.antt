use Rattle.btr_reader_contents.proofs.Imports.{◌≡◌, ◌-◌, ◌+◌, ◌*◌, ◌/◌, ◌∙◌, ◌<◌, ℕ, min, refl, sym, ap, subst, arith, div_ceil, place, LieOn, ReplacesBlock, joined_at, joined_start, block_or_zeros}
use Rattle.fs_rows.proofs.Holding.{held_same}
use Rattle.btr_reader_contents.proofs.Steps.{block_replaces, blocks_end}
use Rattle.btr_reader_contents.proofs.target.put_blocks.Goals as goal

pub put_block-requires-clause-inside : goal.put_block-requires-clause-inside
put_block-requires-clause-inside g c =
    subst (λ (n : ℕ). LieOn n c.args.ranges.now) (sym (g.met.S.BlockSource.kept_size c.args.src.now c.loop-j.src c.loop-j.invariant.kept)) c.requires.inside

pub put_block-requires-clause-fits : goal.put_block-requires-clause-fits
put_block-requires-clause-fits g c = omega (arith, c.loop-j.invariant.size, c.loop-j-test.true, c.count_below-j-end.ensures, c.block_count.ensures.bytes, c.size.ensures)

pub loop-j-init : goal.loop-j-init
loop-j-init g c = record {
  kept = g.met.S.BlockSource.kept_refl _;
  same = refl;
  size = refl;
  next = λ h. omega (arith, h);
  near = λ h. omega (arith, h);
  bytes = λ tells image is whole some aligned f g' over low held.
      held_same c.args.file.now f (joined_at (4096 * (c.args.offset / 4096 + 0)) g' f) (joined_start (4096 * (c.args.offset / 4096 + 0)) g' f (λ n h. over.below n (omega (arith, h)))) held;
}

pub loop-j-preserved : goal.loop-j-preserved
loop-j-preserved g c =
    let before = c.loop-j.invariant in
    let within : c.loop-j.j < c.args.range.now.num_bytes / 4096 = omega (arith, c.loop-j-test.true, c.count_below-j-end.ensures) in
    record {
      kept = g.met.S.BlockSource.kept_trans _ _ _ before.kept c.put_block.ensures.kept;
      same = c.in_ok-put_block.ensures.cause.kept ∙ before.same;
      size = c.put_block.ensures.size ∙ before.size;
      next = λ h. omega (arith, c.in_ok-put_block.ensures.next, before.next h);
      near = λ h. omega (arith, c.in_ok-put_block.ensures.next, before.next h);
      bytes = λ tells image is whole some aligned f g' over low held.
          let same = g.met.S.BlockSource.kept_blocks c.args.src.now c.loop-j.src tells before.kept ∙ is in
          let replaces = block_replaces image c.args.ranges.now c.args.offset c.args.file.now.size c.args.range.now f g' c.loop-j.j whole some aligned over within in
          c.in_ok-put_block.ensures.bytes tells image same (joined_at (4096 * (c.args.offset / 4096 + c.loop-j.j)) g' f) (joined_at (4096 * (c.args.offset / 4096 + (c.loop-j.j + 1))) g' f)
          (subst (λ (size : ℕ). ReplacesBlock size (c.args.offset / 4096 + c.loop-j.j) (block_or_zeros image (place c.args.ranges.now (c.args.range.now.disk_bytenr + c.args.range.now.offset + 4096 * c.loop-j.j))) (joined_at (4096 * (c.args.offset / 4096 + c.loop-j.j)) g' f) (joined_at (4096 * (c.args.offset / 4096 + (c.loop-j.j + 1))) g' f)) (sym before.size) replaces)
          (before.next low) (before.bytes tells image is whole some aligned f g' over low held);
    }

pub returns-clause-bytes : goal.returns-clause-bytes
returns-clause-bytes g c = λ tells image is whole some aligned f g' over low held.
    let most : ℕ = c.args.range.now.num_bytes / 4096 in
    let count : c.loop-j.j ≡ c.count_below-j-end.result = omega (arith, c.loop-j-test.false, c.loop-j.auto.j-end) in
    let all : c.count_below-j-end.result ≡ min (c.args.range.now.num_bytes / 4096) (div_ceil c.args.file.now.size 4096 - c.args.offset / 4096) =
    c.count_below-j-end.ensures ∙ ap (λ (d : ℕ). min most (d - c.args.offset / 4096)) (c.block_count.ensures.exact ∙ ap (λ (s : ℕ). div_ceil s 4096) c.size.ensures) in
    let over_all : (n : ℕ) → joined_at (4096 * (c.args.offset / 4096 + c.loop-j.j)) g' f n ≡ g' n =
    blocks_end c.args.offset c.args.file.now.size c.loop-j.j c.args.range.now _ f g' some aligned over (count ∙ all) in
    held_same c.loop-j.file _ g' over_all (c.loop-j.invariant.bytes tells image is whole some aligned f g' over low held)
