use Rattle.file_items.proofs.Imports.{◌<◌, sym, subst, All-filter, is_under, Spot, AreBelow}
use Rattle.file_items.proofs.link_index.LinkIndex.names_in.Goals as goal

pub returns-clause-below : goal.returns-clause-below
returns-clause-below c =
    subst (AreBelow c.args.self.now.count) (sym c.under.ensures) (All-filter (is_under c.args.dir) (λ (s : Spot). s.number < c.args.self.now.count) c.args.self.now.by_dir c.args.self.now.dirs_below)
