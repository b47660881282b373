use Rattle.fs_paths.proofs.Imports.{◌<◌, ◌+◌, ◌∙◌, ◌++◌, ◌∷◌, [], List, length, get_or, sym, ap, subst, arith, get_or_default, NameList, PathFound}
use Rattle.fs_paths.proofs.Walks.{Walk, start, step, first, reaches}
use Rattle.fs_paths.proofs.spread.spread.Goals as goal
use Rattle.fs_paths.proofs.spread.spread.Goals.{then-loop-i-test+else-len-links, else-loop-i-test}

pub loop-i-init : goal.loop-i-init
loop-i-init c =
    let is = c.in_ok-push.ensures.items
    ∙ (ap (λ (l : List PathFound). l ++ record { path = c.new.result; target = c.args.root } ∷ []) c.new-found.ensures.items
    ∙ ap (λ (p : NameList). record { path = p; target = c.args.root } ∷ []) c.new.ensures) in
    subst (λ (l : List PathFound). Walk c.args.links.now c.args.root l 0) (sym is) start

pub loop-i-preserved : goal.loop-i-preserved
loop-i-preserved c =
    let old : List PathFound = c.loop-i.found.items in
    let f : PathFound = get_or old c.loop-i.i (first c.args.root) in
    let within : c.loop-i.i < length old = omega (arith, c.loop-i-test.true, c.loop-i.found.ok, c.len.ensures) in
    subst (λ (l : List PathFound). Walk c.args.links.now c.args.root l (c.loop-i.i + 1)) (sym (c.in_ok-follow.ensures (first c.args.root))) (step old c.loop-i.i f c.loop-i.invariant within (get_or_default old c.loop-i.i f (first c.args.root) within))

pub returns : goal.returns
returns c = reaches c.args.links.now c.args.root c.loop-i.found.items c.loop-i.i c.loop-i.invariant (λ more few.
    elim c.loop-i-test.branch [ then-loop-i-test+else-len-links w ↦ omega (arith, w.if-len-links.false, w.len-in-loop-i.ensures, c.loop-i.found.ok) | else-loop-i-test w ↦ omega (arith, w.loop-i-test.false, c.len.ensures, c.loop-i.found.ok) ])
