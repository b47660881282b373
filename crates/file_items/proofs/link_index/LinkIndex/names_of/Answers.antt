use Rattle.file_items.proofs.Imports.{◌<◌, sym, subst, All-filter, is_under, Spot, AreBelow}
use Rattle.file_items.proofs.link_index.LinkIndex.names_of.Goals as goal

pub returns-clause-below : goal.returns-clause-below
returns-clause-below c =
    subst (AreBelow c.args.self.now.count) (sym c.under.ensures) (All-filter (is_under c.args.object) (λ (s : Spot). s.number < c.args.self.now.count) c.args.self.now.by_target c.args.self.now.targets_below)
