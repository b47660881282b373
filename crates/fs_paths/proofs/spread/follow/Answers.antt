use Rattle.fs_paths.proofs.Imports.{◌∙◌, ◌++◌, List, length, get_or, map, take, filter, ap, arith, take_all, get_or_default, length-append, PathFound, NodeLink, is_of, child}
use Rattle.fs_paths.proofs.spread.follow.Goals as goal

pub index-requires-in-loop-link : goal.index-requires-in-loop-link
index-requires-in-loop-link c =
    let old : List PathFound = c.args.found.now.items in
    let more : List PathFound = map (child (get_or old c.args.i c.index.result.now)) (take c.loop-link.link-index c.links_of-link-items.result.now) in
    let long = ap (λ (l : List PathFound). length l) (c.loop-link.invariant c.index.result.now) ∙ length-append old more in
    omega (arith, long, c.requires.within, c.loop-link.found.ok)

pub returns : goal.returns
returns c = λ d.
    let old : List PathFound = c.args.found.now.items in
    let f : PathFound = get_or old c.args.i d in
    let dir = c.index.ensures ∙ get_or_default old c.args.i c.index.result.now d c.requires.within in
    let entries = take_all c.loop-link.link-index c.links_of-link-items.result.now c.loop-link-test.false ∙ (c.links_of-link-items.ensures ∙ ap (λ (g : PathFound). filter (is_of g.target) c.args.links.now) dir) in
    c.loop-link.invariant d ∙ ap (λ (l : List NodeLink). old ++ map (child f) l) entries
