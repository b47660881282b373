use Rattle.outside.proofs.Imports.{◌≡◌, ℕ, refl, sym, ◌∙◌, ap, subst, LruCache, Block, AreOf, Image, block_at}
use Rattle.outside.proofs.Caching.{used_of, put_of, after_put}
use Rattle.outside.proofs.cached.CachedBlockSource.read.Goals as goal

pub invariant_of-self : goal.invariant_of-self
invariant_of-self g c = record {
  are_of = λ tells.
      subst (λ (l : LruCache ℕ Block). AreOf (g.D.BlockSource.blocks c.args.self.now.disk.now) l.entries) (sym c.get.follows.holds-at-none)
      (used_of (g.D.BlockSource.blocks c.args.self.now.disk.now) c.args.n c.args.self.now.room.now.blocks.entries (c.args.self.now.are_of tells));
}

pub invariant_of-self-in-Break-1 : goal.invariant_of-self-in-Break-1
invariant_of-self-in-Break-1 g c = record {
  are_of = λ tells.
      subst (λ (l : LruCache ℕ Block). AreOf (g.D.BlockSource.blocks c.read.new.self) l.entries) (sym c.get.follows.holds-at-none)
      (used_of (g.D.BlockSource.blocks c.read.new.self) c.args.n c.args.self.now.room.now.blocks.entries
      (subst (λ (i : Image). AreOf i c.args.self.now.room.now.blocks.entries) (sym (g.met.D.BlockSource.kept_blocks c.args.self.now.disk.now c.read.new.self tells c.read.ensures.kept)) (c.args.self.now.are_of tells)));
}

pub invariant_of-self-2 : goal.invariant_of-self-2
invariant_of-self-2 g c = record {
  are_of = λ tells.
      let image : Image = g.D.BlockSource.blocks c.read.new.self in
      let same : image ≡ g.D.BlockSource.blocks c.args.self.now.disk.now = g.met.D.BlockSource.kept_blocks c.args.self.now.disk.now c.read.new.self tells c.read.ensures.kept in
      let before : LruCache ℕ Block = c.get.follows.lender-at-none in
      let are : AreOf image before.entries =
      subst (λ (l : LruCache ℕ Block). AreOf image l.entries) (sym c.get.follows.holds-at-none)
      (used_of image c.args.n c.args.self.now.room.now.blocks.entries (subst (λ (i : Image). AreOf i c.args.self.now.room.now.blocks.entries) (sym same) (c.args.self.now.are_of tells))) in
      let here : c.read.new.into.bytes ≡ block_at image c.args.n = c.in_ok-read.ensures.block tells ∙ ap (λ (i : Image). block_at i c.args.n) (sym same) in
      after_put c.put.result (λ (l : LruCache ℕ Block). AreOf image l.entries) before _ c.put.new.self c.put.ensures.entries c.put.ensures.err
      (put_of image image c.args.n (λ m other. refl) before are c.read.new.into here) are;
}
