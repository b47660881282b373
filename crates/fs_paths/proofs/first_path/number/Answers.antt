use Rattle.fs_paths.proofs.Imports.{◌∙◌, length, sym}
use Rattle.std.proofs.lemmas.Iterator.Adapters.{YieldsList-from_vec}
use Rattle.std.proofs.lemmas.Iterator.Consumers.{YieldsList-turn}
use Rattle.fs_paths.proofs.Placing.{has_place}
use Rattle.fs_paths.proofs.first_path.number.Goals as goal

pub with_place-requires : goal.with_place-requires
with_place-requires c =
    let gives = c.into_iter-each-iterator.ensures.into_iter_gives in
    let t = YieldsList-turn (YieldsList-from_vec {s = c.into_iter-each-iterator.result} c.args.found.items gives.0 (gives.1 ∙ c.args.found.ok.0)) c.loop-each.yielded c.loop-each.each-iterator c.loop-each.yielded_by c.next.result c.next.new.self c.in-Some.each c.in-Some.is c.next.ensures.steps in
    has_place c.in_ok-places.places c.args.found.items c.in-Some.each c.in_ok-places.ensures (length c.loop-each.yielded, t.0, sym t.1)
