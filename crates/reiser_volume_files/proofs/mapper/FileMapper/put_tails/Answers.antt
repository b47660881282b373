use Rattle.reiser_volume_files.proofs.Imports.{◌≡◌, ◌+◌, ◌*◌, ◌/◌, ◌∙◌, ◌≤◌, refl, arith, joined_at, joined_start, joined_end, joined_below}
use Rattle.reiser_volume_files.proofs.Joining.{runs_same}
use Rattle.reiser_volume_files.proofs.Mapped.{others_stay}
use Rattle.reiser_volume_files.proofs.mapper.FileMapper.put_tails.Goals as goal

pub loop-k-init : goal.loop-k-init
loop-k-init c = record {
  size = refl;
  next = λ h. omega (arith, h);
  reached = λ h. omega (arith, h);
  runs = λ f g over low held. runs_same c.args.self.now f (joined_at (c.args.at / 4096) g f) (joined_start (c.args.at / 4096) g f (λ k h. over.below k h)) held;
}

pub loop-k-preserved : goal.loop-k-preserved
loop-k-preserved c =
    let before = c.loop-k.invariant in
    let at : 4096 * c.args.self.now.next ≤ c.args.at → c.put_block.new.self.next ≡ c.loop-k.k = λ h. omega (arith, before.next h, c.in_ok-put_block.ensures.next) in
    record {
      size = c.put_block.ensures.size ∙ before.size;
      next = λ h. omega (arith, at h);
      reached = λ h. omega (arith, at h, c.loop-k-test.true, c.requires.some);
      runs = λ f g over low held.
          c.in_ok-put_block.ensures.runs (joined_at c.loop-k.k g f) (joined_at (c.loop-k.k + 1) g f)
          (joined_below (c.loop-k.k + 1) g f c.loop-k.k (omega arith) ∙ over.inside c.requires.some c.loop-k.k c.loop-k.auto.k (omega (arith, c.loop-k-test.true, c.requires.some)))
          (others_stay g f c.loop-k.k) (before.next low) (before.runs f g over low held);
    }

pub returns-clause-runs : goal.returns-clause-runs
returns-clause-runs c = λ f g over low held.
    runs_same c.loop-k.self _ g (joined_end c.loop-k.k g f (λ k h. over.above k (omega (arith, h, c.loop-k-test.false, c.requires.some)))) (c.loop-k.invariant.runs f g over low held)
