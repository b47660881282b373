use Rattle.reiser_volume_contents.proofs.Imports.{refl, sym, subst, arith, IsFrom, standing}
use Rattle.reiser_volume_contents.proofs.Files.{stands_head, stands_body}
use Rattle.reiser_volume_contents.proofs.mark.mark_item.Goals as goal

pub returns-clause-given : goal.returns-clause-given
returns-clause-given g c = λ tells image is given i stands may inside marks.
    c.in_ok-add_item.ensures.given tells image is given i (stands_head (standing c.args.items.now) i c.head-head.result stands c.head-head.ensures) (stands_body (standing c.args.items.now) i c.body-2.result.now stands c.body-2.ensures) may marks

pub returns-then-not-are_inside-clause-names : goal.returns-then-not-are_inside-clause-names
returns-then-not-are_inside-clause-names g c = λ first leaves from.
    let there = from.hand (omega (arith, c.requires.stands)) in
    let own = subst (IsFrom first leaves) (sym c.leaf.ensures.no) there in
    rw c.changed.ensures (c.leaf.result, own, refl)
