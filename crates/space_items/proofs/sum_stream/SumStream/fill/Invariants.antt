use Rattle.space_items.proofs.Imports.{◌≡◌, ◌-◌, ◌*◌, take, flat_map, range_with_len, OverTold, IsAsBefore, block_sum}
use Rattle.space_items.proofs.sum_stream.SumStream.fill.Given as goal

abbrev pub invariant-loop-b : goal.invariant-loop-b
invariant-loop-b g l = record {
  kept : g.S.BlockSource.kept l.initial.src l.src;
  same : g.S.BlockSource.faults l.src ≡ g.S.BlockSource.faults l.initial.src;
  still : IsAsBefore l.initial.self l.self;
  long : l.length ≡ l.width * (l.b - l.first);
  sums : OverTold g.S.BlockSource.tells (g.S.BlockSource.blocks l.initial.src) (λ image. take l.length l.self.bytes.items ≡ flat_map (block_sum l.initial.self.sums image) (range_with_len l.first (l.b - l.first)));
}
