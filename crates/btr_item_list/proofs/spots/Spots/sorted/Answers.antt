use Rattle.btr_item_list.proofs.Imports.{rules, answers_always, Spot}
use Rattle.btr_item_list.proofs.Runs.{sort_is}
use Rattle.btr_item_list.proofs.spots.Spots.sorted.Goals as goal

pub invariant_of-result : goal.invariant_of-result
invariant_of-result c = c.in_ok-sort_by_key.ensures.sorted (λ spot. spot.of) (answers_always _ _ _ (λ f a r g h. search rules))

pub returns : goal.returns
returns c =
    sort_is (λ (spot : Spot). spot.of) c.args.spots.items c.sort_by_key.new.self.items
    (c.in_ok-sort_by_key.ensures.sorted (λ spot. spot.of) (answers_always _ _ _ (λ f a r g h. search rules)))
    (c.sort_by_key.ensures.stable (λ spot. spot.of) (answers_always _ _ _ (λ f a r g h. search rules)))
