use Rattle.fs_paths.proofs.Imports.{◌≡◌, ◌∙◌, length, nat_cmp, sym, arith, slice_cmp}
use Rattle.fs_paths.proofs.Comparing.{names_differ, names_agree, cmp_end}
use Rattle.fs_paths.proofs.path_found.compare.Goals as goal

pub returns-then-is_ne : goal.returns-then-is_ne
returns-then-is_ne c =
    let is : c.cmp-order.result ≡ slice_cmp nat_cmp c.get.result.now c.get-in-loop-i.result.now = cc in
    names_differ c.args.a.now c.args.b.now c.loop-i.i _ _ c.cmp-order.result c.get.ensures c.get-in-loop-i.ensures is (sym c.is_ne.ensures ∙ c.if-is_ne.true) c.loop-i.invariant

pub loop-i-preserved : goal.loop-i-preserved
loop-i-preserved c =
    let is : c.cmp-order.result ≡ slice_cmp nat_cmp c.get.result.now c.get-in-loop-i.result.now = cc in
    names_agree c.args.a.now c.args.b.now c.loop-i.i _ _ c.cmp-order.result c.get.ensures c.get-in-loop-i.ensures is (sym c.is_ne.ensures ∙ c.if-is_ne.false) c.loop-i.invariant

pub returns : goal.returns
returns c =
    let end = cmp_end (slice_cmp nat_cmp) c.loop-i.i c.args.a.now c.args.b.now (omega arith) (omega arith) (λ left right. omega arith) in
    let is : c.cmp.result ≡ nat_cmp (length c.args.a.now) (length c.args.b.now) = cc in
    is ∙ (sym end ∙ c.loop-i.invariant)
