use Rattle.outside.proofs.Imports.{◌≡◌, ◌<◌, ℕ, length, sym, ◌∙◌, subst, LruCache, Block, AreOf, Image, reads}
use Rattle.outside.proofs.Caching.{put_of, dropped_of, after_set, written_others, written_here}
use Rattle.outside.proofs.cached.CachedDisk.write.Goals as goal

pub invariant_of-self : goal.invariant_of-self
invariant_of-self g c = record {
  are_of = λ tells.
      let old : Image = g.D.BlockSource.blocks c.args.self.now.disk.now in
      let new : Image = g.D.BlockSource.blocks c.write.new.self in
      let is : old ≡ reads (g.D.Disk.history c.args.self.now.disk.now) = g.met.D.Disk.open_blocks c.args.self.now.disk.now _ tells c.requires.open in
      let is' : new ≡ reads (g.D.Disk.history c.write.new.self) = g.met.D.Disk.open_blocks c.write.new.self _ tells (c.write.ensures.open ∙ c.requires.open) in
      let fits : c.args.n < length (reads (g.D.Disk.history c.args.self.now.disk.now)) =
      subst (λ (m : ℕ). c.args.n < m) (g.met.D.Disk.open_size c.args.self.now.disk.now _ tells c.requires.open) c.requires.in_range in
      after_set c.put.result (λ (l : LruCache ℕ Block). AreOf new l.entries) _ c.put.new.self c.put.ensures.entries (c.put.ensures.succeeds (sym c.contains.ensures ∙ c.if-contains.true))
      (put_of old new c.args.n (written_others _ _ c.args.n c.args.from.now.bytes c.write.result (c.write.ensures.effect tells) old new is is') c.args.self.now.room.now.blocks (c.args.self.now.are_of tells) c.args.from.now
      (written_here _ _ c.args.n c.args.from.now.bytes (c.in-Ok.ensures.effect tells) fits new is'));
}

pub invariant_of-self-then-len-gt0 : goal.invariant_of-self-then-len-gt0
invariant_of-self-then-len-gt0 g c = record {
  are_of = λ tells.
      let old : Image = g.D.BlockSource.blocks c.args.self.now.disk.now in
      let new : Image = g.D.BlockSource.blocks c.write.new.self in
      let is : old ≡ reads (g.D.Disk.history c.args.self.now.disk.now) = g.met.D.Disk.open_blocks c.args.self.now.disk.now _ tells c.requires.open in
      let is' : new ≡ reads (g.D.Disk.history c.write.new.self) = g.met.D.Disk.open_blocks c.write.new.self _ tells (c.write.ensures.open ∙ c.requires.open) in
      subst (λ (l : LruCache ℕ Block). AreOf new l.entries) (sym c.pop.ensures.entries)
      (dropped_of old new c.args.n (written_others _ _ c.args.n c.args.from.now.bytes c.write.result (c.write.ensures.effect tells) old new is is') c.args.self.now.room.now.blocks.entries (c.args.self.now.are_of tells) c.len.ensures.valid.0);
}
