use Rattle.reiser_walk.proofs.Imports.{◌≡◌, ℕ, suc, ◌-◌, List, [], Contains, refl, ◌∙◌, ap, subst, arith, add-one, ItemHead, body_at, heads_within, LeafInHand, blocks_named, held_by, leaf_events, item_before, reached_in, reach_damages, MarksSeen, seen_after}
use Rattle.reiser_walk.proofs.Taking.{next_item, next_at, item_blamed, named_blamed, item_taken}
use Rattle.reiser_walk.proofs.walker.Walker.take_item.Goals as goal

pub overflow_add-self : goal.overflow_add-self
overflow_add-self c =
    let l : LeafInHand = c.args.self.now.leaf in
    omega (arith, l.all (omega arith), heads_within l.block.bytes (l.leaf (omega arith)))

pub returns-in-Err-clause-comes : goal.returns-in-Err-clause-comes
returns-in-Err-clause-comes c = λ image given k.
    let found = c.in-Err.ensures.damage in
    let left : c.args.self.now.leaf.at.left ≡ suc (c.args.self.now.leaf.at.left - 1) = omega arith in
    item_blamed c.args.self.now image c.args.map.now given found.0 k found.1 (c.args.self.now.leaf.at.left - 1) left c.in-Err.e found.2

pub returns-in-Err-claim_named-clause-comes : goal.returns-in-Err-claim_named-clause-comes
returns-in-Err-claim_named-clause-comes c = λ image given k.
    let l : LeafInHand = c.args.self.now.leaf in
    let head : ItemHead = c.in-Ok.head in
    let left : l.at.left ≡ suc (l.at.left - 1) = omega arith in
    let body : c.body.result.now ≡ body_at l.block.bytes l.at.next = c.body.ensures ∙ ap (λ (b : List ℕ). body_at b l.at.next) c.of.ensures in
    let seen : List ℕ = seen_after [] (reached_in k.done) in
    named_blamed c.args.self.now image c.args.map.now given head k c.in-Ok.ensures.head (l.at.left - 1) left c.in-Err-claim_named.e
    (subst (λ (b : List ℕ). Contains (reach_damages c.args.self.now.tree c.args.map.now seen (held_by l.no (blocks_named head b))) c.in-Err-claim_named.e) body (c.in-Err-claim_named.ensures.claimed seen k.marks))

pub returns-clause-comes : goal.returns-clause-comes
returns-clause-comes c = λ image given k.
    let l : LeafInHand = c.args.self.now.leaf in
    let head : ItemHead = c.in-Ok.head in
    let left : l.at.left ≡ suc (l.at.left - 1) = omega arith in
    let body : c.body.result.now ≡ body_at l.block.bytes l.at.next = c.body.ensures ∙ ap (λ (b : List ℕ). body_at b l.at.next) c.of.ensures in
    let seen : List ℕ = seen_after [] (reached_in k.done) in
    let claimed =
    subst (λ (b : List ℕ). (reach_damages c.args.self.now.tree c.args.map.now seen (held_by l.no (blocks_named head b)) ≡ []) × MarksSeen c.claim_named.new.reached (seen_after seen (held_by l.no (blocks_named head b)))) body
    (c.in-Ok-claim_named.ensures.claimed seen k.marks) in (
      next_item l head,
      item_taken c.args.self.now image c.args.map.now given head k c.in-Ok.ensures.head (l.at.left - 1) left _ refl refl (c.claim_named.ensures.size ∙ k.size)
          (ap (λ (z : ℕ). leaf_events l.no l.block.bytes z (l.at.left - 1)) (add-one l.at.next)) refl c.in-Ok.ensures.above c.in-Ok.ensures.body claimed.0 claimed.1,
      ap (item_before l.no l.block.bytes) (add-one l.at.next) ∙ next_at l head c.in-Ok.ensures.head,
    )
