use Rattle.outside_mem.proofs.Imports.{ℕ, List, Option, replicate, ◌∷◌, ◌∙◌, ap, unwrap_or, Block, zeros, calls_of, written, torn_by, bytes_or}
use Rattle.outside_mem.proofs.Undo.{rest_ordered, choose_more, next_chosen}
use Rattle.outside_mem.proofs.Keys.{apart_eq}
use Rattle.outside_mem.proofs.crash.choose_torn.Goals as goal

pub loop-n-preserved : goal.loop-n-preserved
loop-n-preserved c =
    let before = c.loop-n.invariant in
    let number = next_chosen (replicate 8 0) c.loop-n.numbers c.next-in-loop-n.new.self (λ i. i.rest.now) c.next-in-loop-n.result c.next-in-loop-n.ensures.steps in
    record {
      all_ordered = before.all_ordered;
      ordered = rest_ordered c.in-Some.n.now c.in-Some.synced.now _ _ c.in-Some.ensures.steps before.ordered;
      same = choose_more c.in-Some.n.now c.in-Some.synced.now _ _ c.in-Some.ensures.steps before.ordered (replicate 8 0) (λ q synced numbers. torn_by (synced ∷ written (calls_of c.args.calls.now) q) numbers)
          _ _ c.loop-n.numbers.rest.now c.next-in-loop-n.new.self.rest.now c.unwrap_or-sectors.result
          (ap (λ (o : Option Block). bytes_or zeros o) (c.in_ok-insert.ensures.updates.1) ∙ c.torn.ensures)
          (λ q other. ap (λ (o : Option Block). bytes_or zeros o) (c.in_ok-insert.ensures.updates.2 q (apart_eq c.in-Some.n.now q other)))
          (c.unwrap_or-sectors.ensures ∙ ap (λ (o : Option (List ℕ)). unwrap_or o (replicate 8 0)) c.copied.ensures ∙ number.0) number.1 _ before.same;
    }
