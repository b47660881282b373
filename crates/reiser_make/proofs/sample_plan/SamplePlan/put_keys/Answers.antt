use Rattle.reiser_make.proofs.Imports.{◌≡◌, ◌+◌, ◌-◌, ◌*◌, ◌++◌, ℕ, List, take, sym, ap, ◌∙◌, arith, flat_map, range_with_len, child, child_key}
use Rattle.reiser_make.proofs.Lists.{front_more}
use Rattle.reiser_make.proofs.sample_plan.SamplePlan.put_keys.Goals as goal

pub loop-i-preserved : goal.loop-i-preserved
loop-i-preserved c =
    let f : ℕ → List ℕ = λ m. child_key (child c.args.self.now.sample c.args.level.now.number m) in
    let i : ℕ = c.loop-i.i in
    let at : ℕ = 24 + 16 * (i - 1) in
    let place : 24 + 16 * (i + 1 - 1) ≡ at + 16 = omega (arith, c.loop-i.auto.i) in
    let count : i + 1 - 1 ≡ i - 1 + 1 = omega (arith, c.loop-i.auto.i) in
    record {
      keys = ap (λ n. take n c.put_key.new.into) place
          ∙ front_more f (c.args.first + 1) (i - 1) (c.args.first + i) at (at + 16) (take 24 c.args.into.now) c.loop-i.into c.put_key.new.into
          (omega (arith, c.loop-i.auto.i)) c.loop-i.invariant.keys c.put_key.ensures.key
          ∙ sym (ap (λ n. take 24 c.args.into.now ++ flat_map f (range_with_len (c.args.first + 1) n)) count);
      stands = c.put_key.ensures.stands;
    }
