use Rattle.fs_paths.proofs.Imports.{◌≡◌, ◌∙◌, ◌++◌, ◌∷◌, [], ℕ, ◌<◌, List, length, take, IfSome, Option, sym, ap, subst, arith, take_more, length-take, get, PathFound, FirstPath, same_node, HasFirstPaths, with_one_more}
use Rattle.fs_paths.proofs.Placing.{few_names, placed}
use Rattle.fs_paths.proofs.first_path.note_all.Goals as goal

pub with_one_more-place-requires : goal.with_one_more-place-requires
with_one_more-place-requires c =
    let all : List PathFound = c.args.found.now.items in
    let node = c.index.result.now.target in
    let long = length-take c.loop-i.i all in
    let at = c.copied.ensures ∙ c.get.ensures.value in
    subst (λ (o : Option FirstPath). IfSome o (λ p. p.names < 18446744073709551615)) (sym at) (few_names (take c.loop-i.i all) node 18446744073709551615 (get same_node c.loop-i.places node) (c.loop-i.invariant.each node) (omega arith))

pub loop-i-preserved : goal.loop-i-preserved
loop-i-preserved c =
    let all : List PathFound = c.args.found.now.items in
    let f : PathFound = c.index.result.now in
    let within : c.loop-i.i < length all = omega (arith, c.loop-i-test.true) in
    let more = take_more all c.loop-i.i f within ∙ ap (λ (g : PathFound). take c.loop-i.i all ++ g ∷ []) (sym c.index.ensures) in
    let long : length (take c.loop-i.i all) ≡ c.loop-i.i = let l = length-take c.loop-i.i all in omega arith in
    let is = c.with_one_more-place.ensures ∙ (ap (λ (o : Option FirstPath). with_one_more o c.loop-i.i) (c.copied.ensures ∙ c.get.ensures.value) ∙ ap (λ (n : ℕ). with_one_more (get same_node c.loop-i.places f.target) n) (sym long)) in
    subst (λ (l : List PathFound). HasFirstPaths c.insert.new.self l) (sym more) (placed c.loop-i.places c.insert.new.self (take c.loop-i.i all) f c.with_one_more-place.result c.loop-i.invariant c.in_ok-insert.ensures.updates is)
