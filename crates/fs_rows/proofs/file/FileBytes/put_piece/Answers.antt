use Rattle.fs_rows.proofs.Imports.{◌≡◌, ◌*◌, ◌/◌, ◌∙◌, ◌≤◌, ℕ, refl, ap, arith, block_by}
use Rattle.fs_rows.proofs.Holding.{held_same}
use Rattle.fs_rows.proofs.Joined.{joined_at, joined_start, joined_end, block_before, piece_added}
use Rattle.fs_rows.proofs.file.FileBytes.put_piece.Goals as goal

pub go_to-requires : goal.go_to-requires
go_to-requires c = omega (arith, c.loop-k.invariant.size, c.requires.fits, c.requires.some, c.loop-k-test.true)

pub loop-k-init : goal.loop-k-init
loop-k-init c = record {
  size = refl;
  next = λ h. omega (arith, h);
  near = λ h. omega (arith, h);
  bytes = λ f g over low held.
      held_same c.args.self.now f (joined_at (4096 * (c.args.at / 4096)) g f) (joined_start (4096 * (c.args.at / 4096)) g f (λ n h. over.below n (omega (arith, h)))) held;
}

pub loop-k-preserved : goal.loop-k-preserved
loop-k-preserved c =
    let before = c.loop-k.invariant in
    let at : 4096 * c.args.self.now.next ≤ c.args.at → c.go_to.new.self.next ≡ c.loop-k.k = λ h. omega (arith, before.next h, c.go_to.ensures.next) in
    record {
      size = c.go_to.ensures.size ∙ before.size;
      next = λ h. omega (arith, at h);
      near = λ h. omega (arith, at h, c.loop-k-test.true, c.requires.some);
      bytes = λ f g over low held.
          let here = c.go_to.ensures.same (joined_at (4096 * c.loop-k.k) g f) (before.bytes f g over low held) in
          let old = here.in_hand ∙ ap (λ (k : ℕ). block_by (joined_at (4096 * c.loop-k.k) g f) k) (at low) ∙ block_before g f c.loop-k.k in
          piece_added c.go_to.new.self _ f g c.loop-k.k refl refl (at low) (c.copy_piece.ensures f g c.loop-k.k refl over old) here;
    }

pub returns-clause-bytes : goal.returns-clause-bytes
returns-clause-bytes c = λ f g over low held.
    held_same c.loop-k.self _ g (joined_end (4096 * c.loop-k.k) g f (λ n h. over.above n (omega (arith, h, c.loop-k-test.false, c.requires.some)))) (c.loop-k.invariant.bytes f g over low held)
