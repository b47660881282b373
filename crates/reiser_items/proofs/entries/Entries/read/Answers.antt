use Rattle.reiser_items.proofs.Imports.{same_from_decides}
use Rattle.reiser_items.proofs.Grammar.{entries_decide}
use Rattle.reiser_items.proofs.entries.Entries.read.Goals as goal

pub returns-then-are_entries-clause-test : goal.returns-then-are_entries-clause-test
returns-then-are_entries-clause-test c = same_from_decides _ _ c.if-are_entries.ensures (entries_decide c.args.count c.args.body.now)

pub returns-else-are_entries-clause-test : goal.returns-else-are_entries-clause-test
returns-else-are_entries-clause-test c = same_from_decides _ _ c.if-are_entries.ensures (entries_decide c.args.count c.args.body.now)
