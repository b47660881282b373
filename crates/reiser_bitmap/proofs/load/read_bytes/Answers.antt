use Rattle.reiser_bitmap.proofs.Imports.{refl, ◌≡◌, ◌-◌, ◌*◌, ◌≤◌, min, ℕ, List, length, sym, ◌∙◌, ap, subst, arith, Image, block_at, bitmap_block}
use Rattle.reiser_bitmap.proofs.LoadLemmas.{HasBitsOf, none_read, more_read, all_read}
use Rattle.reiser_bitmap.proofs.load.read_bytes.Goals as goal

pub loop-k-init : goal.loop-k-init
loop-k-init g c = record {
  kept = g.met.S.BlockSource.kept_refl c.args.src.now;
  same = refl;
  filled = omega (arith, ap length c.in_ok-bytes.ensures);
  read = λ tells. none_read _ c.in_ok-bytes.bytes.items c.in_ok-bytes.ensures;
}

pub loop-k-preserved : goal.loop-k-preserved
loop-k-preserved g c =
    let before = c.loop-k.invariant in
    let block : List ℕ = c.read.new.into.bytes in
    let full : length c.loop-k.bytes.items ≡ 4096 * c.loop-k.k = omega (arith, before.filled, c.div_ceil-size.ensures, c.div_ceil-k-end.ensures, c.loop-k-test.true) in
    let count : c.min-count.result ≡ min 4096 (c.div_ceil-size.result - length c.loop-k.bytes.items) = omega (arith, c.min-count.ensures, c.len.ensures) in
    record {
      kept = g.met.S.BlockSource.kept_trans _ _ _ before.kept c.read.ensures.kept;
      same = omega (arith, before.same, c.in_ok-read.ensures.cause.kept);
      filled = omega (arith, c.in_ok-append.ensures.size, count, full, before.filled);
      read = λ tells.
          let image : Image = g.S.BlockSource.blocks c.args.src.now in
          let same : g.S.BlockSource.blocks c.loop-k.src ≡ image = g.met.S.BlockSource.kept_blocks c.args.src.now c.loop-k.src tells before.kept in
          let from : block ≡ block_at image (bitmap_block c.loop-k.k) =
          c.in_ok-read.ensures.block tells ∙ (ap (λ (i : Image). block_at i c.bitmap_block.result) same ∙ ap (block_at image) c.bitmap_block.ensures) in
          subst (HasBitsOf image) (sym c.in_ok-append.ensures.items) (more_read image c.loop-k.bytes.items block c.loop-k.k c.min-count.result full (omega (arith, count)) from (before.read tells));
    }

pub returns-clause-read : goal.returns-clause-read
returns-clause-read g c = λ tells image is.
    let room : c.args.blocks ≤ 8 * length c.loop-k.bytes.items = omega (arith, c.loop-k.invariant.filled, c.div_ceil-size.ensures, c.div_ceil-k-end.ensures, c.loop-k-test.false) in
    all_read image c.args.blocks c.loop-k.bytes.items room (subst (λ (i : Image). HasBitsOf i c.loop-k.bytes.items) is (c.loop-k.invariant.read tells))
