use Rattle.reiser_make.proofs.Imports.{◌≡◌, ◌+◌, ◌*◌, ℕ, List, take, ap, ◌∙◌, arith, refl, child, disk_child_bytes}
use Rattle.reiser_make.proofs.Lists.{front_more}
use Rattle.reiser_make.proofs.sample_plan.SamplePlan.put_pointers.Goals as goal

pub loop-i-preserved : goal.loop-i-preserved
loop-i-preserved c =
    let f : ℕ → List ℕ = λ m. disk_child_bytes (child c.args.self.now.sample c.args.level.now.number m) in
    let i : ℕ = c.loop-i.i in
    let at : ℕ = c.args.start + 8 * i in
    let place : c.args.start + 8 * (i + 1) ≡ at + 8 = omega arith in
    record {
      pointers = ap (λ n. take n c.put_pointer.new.into) place
          ∙ front_more f c.args.first i (c.args.first + i) at (at + 8) (take c.args.start c.args.into.now) c.loop-i.into c.put_pointer.new.into
          refl c.loop-i.invariant.pointers c.put_pointer.ensures.pointer;
      stands = c.put_pointer.ensures.stands;
    }
