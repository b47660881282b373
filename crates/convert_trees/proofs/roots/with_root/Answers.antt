use Rattle.convert_trees.proofs.Imports.{◌≡◌, ◌∙◌, ◌++◌, ◌∷◌, Bool, List, [], if◌then◌else◌, drop, sym, ap, arith, ◌+◌, append-nil, drop_all, drop_more, TreeRoot, inserted}
use Rattle.convert_trees.proofs.roots.with_root.Goals as goal

pub loop-other-init : goal.loop-other-init
loop-other-init c = ap (λ (list : List TreeRoot). list ++ inserted (λ (t : TreeRoot). t.tree) c.args.root c.args.roots.now) c.new-list.ensures

pub loop-other-preserved : goal.loop-other-preserved
loop-other-preserved c =
    c.in_ok-waits.ensures (drop (c.loop-other.other-index + 1) c.args.roots.now)
    ∙ (sym (ap (λ (ts : List TreeRoot). c.loop-other.list ++ (if c.loop-other.waits then inserted (λ (t : TreeRoot). t.tree) c.args.root ts else ts)) (drop_more c.args.roots.now c.loop-other.other-index _ c.loop-other-test.true))
    ∙ c.loop-other.invariant)

-- all were passed
passed : (list rest : List TreeRoot) (waits : Bool) (root : TreeRoot) (all : List TreeRoot) → rest ≡ [] → list ++ (if waits then inserted (λ t. t.tree) root rest else rest) ≡ all
    → list ++ (if waits then root ∷ [] else []) ≡ all
passed list rest waits root all none is = sym (ap (λ (ts : List TreeRoot). list ++ (if waits then inserted (λ (t : TreeRoot). t.tree) root ts else ts)) none) ∙ is

pub returns-then-not-waits : goal.returns-then-not-waits
returns-then-not-waits c =
    let all = passed c.loop-other.list _ c.loop-other.waits c.args.root _ (drop_all c.loop-other.other-index c.args.roots.now (omega (arith, c.loop-other-test.false))) c.loop-other.invariant in
    sym (append-nil c.loop-other.list) ∙ (sym (ap (λ (b : Bool). c.loop-other.list ++ (if b then c.args.root ∷ [] else [])) c.if-not-waits.true) ∙ all)

pub returns : goal.returns
returns c =
    let all = passed c.loop-other.list _ c.loop-other.waits c.args.root _ (drop_all c.loop-other.other-index c.args.roots.now (omega (arith, c.loop-other-test.false))) c.loop-other.invariant in
    c.in_ok-add.ensures.ok ∙ (sym (ap (λ (b : Bool). c.loop-other.list ++ (if b then c.args.root ∷ [] else [])) c.if-not-waits.false) ∙ all)
