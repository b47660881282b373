use Rattle.space_items.proofs.Imports.{◌≡◌, ◌∙◌, ℕ, ◌+◌, ◌-◌, ◌++◌, List, take, sym, ap, arith, flat_map, range_with_len, Image, block_at, kind_sum, kind_width, SumKind, block_sum}
use Rattle.space_items.proofs.Summing.{parts_long, parts_more}
use Rattle.space_items.proofs.sum_stream.SumStream.fill.Goals as goal

pub loop-b-preserved : goal.loop-b-preserved
loop-b-preserved g c =
    let before = c.loop-b.invariant in
    let sums : SumKind = c.args.self.now.sums in
    let width : c.kind_width-width.result ≡ kind_width sums = c.kind_width-width.ensures in
    let more : c.loop-b.b + 1 - c.args.first ≡ c.loop-b.b - c.args.first + 1 = omega arith in
    record {
      kept = g.met.S.BlockSource.kept_trans _ _ _ before.kept c.read.ensures.kept;
      same = c.in_ok-read.ensures.cause.kept ∙ before.same;
      still = record { sums = before.still.sums; piece = before.still.piece; done = before.still.done; spent = before.still.spent; wide = c.put_sum.ensures.long ∙ before.still.wide };
      long = parts_long c.kind_width-width.result (c.loop-b.b - c.args.first) (c.loop-b.b + 1 - c.args.first) c.loop-b.length before.long more;
      sums = λ tells image is.
          let same : g.S.BlockSource.blocks c.loop-b.src ≡ image = g.met.S.BlockSource.kept_blocks c.args.src.now c.loop-b.src tells before.kept ∙ is in
          let block : c.read.new.into.bytes ≡ block_at image c.loop-b.b = c.in_ok-read.ensures.block tells ∙ ap (λ (i : Image). block_at i c.loop-b.b) same in
          let at : c.args.first + (c.loop-b.b - c.args.first) ≡ c.loop-b.b = omega arith in
          let wide : c.loop-b.length + c.kind_width-width.result ≡ c.loop-b.length + kind_width c.loop-b.self.sums = ap (λ (k : ℕ). c.loop-b.length + k) (width ∙ ap kind_width (sym before.still.sums)) in
          ap (λ (k : ℕ). take k c.put_sum.new.body.items) wide
          ∙ (c.put_sum.ensures.sum
          ∙ (ap (λ (l : List ℕ). l ++ take (kind_width c.loop-b.self.sums) (kind_sum c.loop-b.self.sums c.read.new.into.bytes)) (before.sums tells image is)
          ∙ (ap (λ (s : SumKind). flat_map (block_sum sums image) (range_with_len c.args.first (c.loop-b.b - c.args.first)) ++ take (kind_width s) (kind_sum s c.read.new.into.bytes)) before.still.sums
          ∙ (ap (λ (l : List ℕ). flat_map (block_sum sums image) (range_with_len c.args.first (c.loop-b.b - c.args.first)) ++ take (kind_width sums) (kind_sum sums l)) block
          ∙ (ap (λ (k : ℕ). flat_map (block_sum sums image) (range_with_len c.args.first (c.loop-b.b - c.args.first)) ++ block_sum sums image k) (sym at)
          ∙ (sym (parts_more (block_sum sums image) c.args.first (c.loop-b.b - c.args.first)) ∙ ap (λ (k : ℕ). flat_map (block_sum sums image) (range_with_len c.args.first k)) (sym more)))))));
    }

pub returns-clause-sums : goal.returns-clause-sums
returns-clause-sums g c = λ tells image is.
    let all : c.loop-b.b - c.args.first ≡ c.args.count = omega arith in
    c.loop-b.invariant.sums tells image is ∙ ap (λ (k : ℕ). flat_map (block_sum c.args.self.now.sums image) (range_with_len c.args.first k)) all
