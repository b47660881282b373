use Rattle.reiser_volume_objects.proofs.Imports.{◌<◌, ℕ, List, length, sym, subst, Contains, arith, err_from_is_err_and, contains, VolAnswer, same_node, Naming, same_key, root, Refuses}
use Rattle.reiser_volume_objects.proofs.Reaching.{closes_more, indexed_naming, reach_is_whole, taken_all}
use Rattle.reiser_volume_objects.proofs.reach.named_by.Goals as goal

pub returns-in_err-follow-clause-named : goal.returns-in_err-follow-clause-named
returns-in_err-follow-clause-named c = λ items noted directory tells.
    let within : c.loop-i.i < length c.args.objects.now.namings.items = omega (arith, c.loop-i-test.true, c.len-i-end.ensures) in
    let among = indexed_naming c.args.objects.now items c.loop-i.i c.index.result.now noted within c.index.ensures in
    let refused = c.in_err-follow.ensures.sound items noted among tells (c.loop-i.invariant.seen items noted directory tells) in
    let err = err_from_is_err_and c.from_residual-in_err-follow.result c.from_residual-in_err-follow.ensures.1 in
    rw err.1 (subst (λ (e : VolAnswer). (root_block : ℕ) → Refuses root_block items e) (sym err.2) refused)

pub loop-i-preserved : goal.loop-i-preserved
loop-i-preserved c =
    let within : c.loop-i.i < length c.args.objects.now.namings.items = omega (arith, c.loop-i-test.true, c.len-i-end.ensures) in
    record {
      root_in = c.in_ok-follow.ensures.follows.keeps root c.loop-i.invariant.root_in;
      closed = closes_more c.args.objects.now.namings.items c.loop-i.i c.index.result.now _ _ _ (sym c.index.ensures) within c.loop-i.invariant.closed c.in_ok-follow.ensures.follows;
      seen = λ items noted directory tells.
          c.in_ok-follow.ensures.sound items noted (indexed_naming c.args.objects.now items c.loop-i.i c.index.result.now noted within c.index.ensures) tells (c.loop-i.invariant.seen items noted directory tells);
    }

pub returns-clause-named : goal.returns-clause-named
returns-clause-named c = λ items noted directory tells. record {
  seen = c.loop-i.invariant.seen items noted directory tells;
  whole = reach_is_whole items (contains same_node c.args.nodes.now) (contains same_key c.loop-i.named) tells c.loop-i.invariant.root_in
      (λ n among. c.loop-i.invariant.closed n (taken_all c.args.objects.now.namings.items c.loop-i.i n (omega (arith, c.loop-i-test.false, c.len-i-end.ensures)) (subst (λ (ns : List Naming). Contains ns n) (sym noted.namings) among)));
  root_directory = directory;
}
