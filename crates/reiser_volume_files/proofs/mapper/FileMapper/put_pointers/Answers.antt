use Rattle.reiser_volume_files.proofs.Imports.{◌≡◌, ◌-◌, ◌+◌, ◌*◌, ◌/◌, ◌∙◌, ◌<◌, ℕ, min, length, refl, sym, ap, arith, joined_at, joined_start}
use Rattle.reiser_volume_files.proofs.Joining.{runs_same}
use Rattle.reiser_volume_files.proofs.Mapped.{others_stay, hole_stays, disk_there, disks_end}
use Rattle.reiser_volume_files.proofs.mapper.FileMapper.put_pointers.Goals as goal

pub loop-j-init : goal.loop-j-init
loop-j-init c = record {
  size = refl;
  next = λ h. omega (arith, h);
  none = λ h. refl;
  runs = λ f g over low held. runs_same c.args.self.now f (joined_at (c.args.first + 0) g f) (joined_start (c.args.first + 0) g f (λ k h. over.below k (omega (arith, h)))) held;
}

pub loop-j-preserved : goal.loop-j-preserved
loop-j-preserved c =
    let before = c.loop-j.invariant in
    let within : c.loop-j.j < length c.args.body.now / 4 = omega (arith, c.loop-j-test.true, c.count_below-j-end.ensures) in
    let below : 4096 * (c.args.first + c.loop-j.j) < c.args.self.now.size = omega (arith, c.loop-j-test.true, c.count_below-j-end.ensures, c.block_count.ensures.exact) in
    let up : c.args.first + (c.loop-j.j + 1) ≡ c.args.first + c.loop-j.j + 1 = omega arith in
    record {
      size = c.put_pointer.ensures.size ∙ before.size;
      next = λ h. omega (arith, c.in_ok-put_pointer.ensures.next (before.next h));
      none = λ h. absurd (omega (arith, within, h));
      runs = λ f g over low held.
          c.in_ok-put_pointer.ensures.runs (joined_at (c.args.first + c.loop-j.j) g f) (joined_at (c.args.first + (c.loop-j.j + 1)) g f)
          (λ none. hole_stays c.args.self.now.size c.args.first c.args.body.now f g c.loop-j.j over within (sym c.pointer.ensures ∙ none))
          (λ some. disk_there c.args.self.now.size c.args.first c.args.body.now f g c.loop-j.j c.pointer.result over within below (sym c.pointer.ensures) some)
          (λ k other. ap (λ (n : ℕ). joined_at n g f k) up ∙ others_stay g f (c.args.first + c.loop-j.j) k other)
          (before.next low) (before.runs f g over low held);
    }

pub returns-clause-runs : goal.returns-clause-runs
returns-clause-runs c = λ f g over low held.
    let count : c.loop-j.j ≡ c.count_below-j-end.result = omega (arith, c.loop-j-test.false, c.loop-j.auto.j-end) in
    runs_same c.loop-j.self _ g (disks_end c.args.self.now.size c.args.first c.loop-j.j c.args.body.now f g over (count ∙ (c.count_below-j-end.ensures ∙ ap (λ (d : ℕ). min (length c.args.body.now / 4) (d - c.args.first)) c.block_count.ensures.exact)))
    (c.loop-j.invariant.runs f g over low held)
