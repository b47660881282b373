use Rattle.reiser_volume_contents.proofs.Imports.{refl, ap, arith}
use Rattle.reiser_volume_contents.specs.declared.leaf.NodeCursor.{NodeCursor}
use Rattle.reiser_volume_contents.proofs.Begins.{begun}
use Rattle.reiser_volume_contents.proofs.object_items.ObjectItems.new.Goals as goal

pub returns-clause-begins : goal.returns-clause-begins
returns-clause-begins c = λ tree image used holds.
    begun c.args.objects.now c.args.key tree image used _ refl (ap (λ (p : NodeCursor). p.left) c.none.ensures) c.start.ensures holds

pub returns-clause-from : goal.returns-clause-from
returns-clause-from c = λ items noted. (
  c.start.result,
  c.start.ensures items noted,
  record {
    later = omega arith;
    hand = λ some. absurd (omega (arith, some, ap (λ (p : NodeCursor). p.next) c.none.ensures, ap (λ (p : NodeCursor). p.left) c.none.ensures));
  },
)
