use Rattle.btr_reader_walk.proofs.Imports.{◌≡◌, ℕ, ◌/◌, ◌*◌, ◌+◌, ◌++◌, List, length, sym, ◌∙◌, ap, arith, Image, block_at, place, block_of_place, blocks_at}
use Rattle.btr_reader_walk.proofs.Mapping.{mapped_at, blocks_more, all_taken}
use Rattle.btr_reader_walk.proofs.blocks.read_blocks.Goals as goal

pub block_of-no-requires-clause-mapped : goal.block_of-no-requires-clause-mapped
block_of-no-requires-clause-mapped g c = mapped_at c.args.ranges.now (length c.args.buffer.now.items / 4096) c.loop-i.i c.args.address (omega arith) c.requires.mapped

pub loop-i-preserved : goal.loop-i-preserved
loop-i-preserved g c =
    let before = c.loop-i.invariant in
    let block : List ℕ = c.read.new.into.bytes in
    record {
      kept = g.met.S.BlockSource.kept_trans _ _ _ before.kept c.read.ensures.kept;
      same = c.in_ok-read.ensures.cause.kept ∙ before.same;
      size = c.put_block.ensures.size ∙ before.size;
      read = λ tells.
          let image : Image = g.S.BlockSource.blocks c.args.src.now in
          let same : g.S.BlockSource.blocks c.loop-i.src ≡ image = g.met.S.BlockSource.kept_blocks c.args.src.now c.loop-i.src tells before.kept in
          let from : block ≡ block_of_place image (place c.args.ranges.now (c.args.address + 4096 * c.loop-i.i)) =
          c.in_ok-read.ensures.block tells ∙ (ap (λ (i : Image). block_at i c.block_of-no.result) same ∙ c.block_of-no.ensures.block image) in
          c.put_block.ensures.more
          ∙ (ap (λ (z : List ℕ). z ++ block) (before.read tells)
          ∙ (ap (λ (z : List ℕ). blocks_at image c.args.ranges.now c.loop-i.i c.args.address ++ z) from
          ∙ sym (blocks_more image c.args.ranges.now c.loop-i.i c.args.address)));
    }

pub returns-clause-bytes : goal.returns-clause-bytes
returns-clause-bytes g c = λ tells.
    let all : c.loop-i.i ≡ length c.args.buffer.now.items / 4096 = omega arith in
    let full : 4096 * c.loop-i.i ≡ length c.loop-i.buffer.items = omega (arith, c.loop-i.invariant.size, c.requires.whole, all) in
    all_taken (4096 * c.loop-i.i) c.loop-i.buffer.items full
    ∙ (c.loop-i.invariant.read tells ∙ ap (λ (k : ℕ). blocks_at (g.S.BlockSource.blocks c.args.src.now) c.args.ranges.now k c.args.address) all)
