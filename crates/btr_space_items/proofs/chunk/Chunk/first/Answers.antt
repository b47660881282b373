use Rattle.btr_space_items.proofs.Imports.{chunk_layout, stripe_layout}
use Rattle.btr_space_items.proofs.chunk.Chunk.first.Goals as goal

pub returns : goal.returns
unfolding chunk_layout stripe_layout
returns c = λ i. record {
  length = c.u64_at.ensures i;
  owner = c.u64_at-2.ensures i;
  stripe_len = c.u64_at-3.ensures i;
  kind = c.u64_at-4.ensures i;
  io_align = c.u32_at.ensures i;
  io_width = c.u32_at-2.ensures i;
  sector_size = c.u32_at-3.ensures i;
  num_stripes = c.u16_at.ensures i;
  sub_stripes = c.u16_at-2.ensures i;
  stripe = c.at.ensures i;
}
