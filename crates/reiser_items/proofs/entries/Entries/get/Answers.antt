use Rattle.reiser_items.proofs.Imports.{◌<◌, List, length, Some, slice_get, sym, ap, ◌∙◌, arith, EntryValue}
use Rattle.reiser_items.proofs.Lists.{entries_length, entry_is}
use Rattle.reiser_items.proofs.Grammar.{heads_within, area_within}
use Rattle.reiser_items.proofs.entries.Entries.get.Goals as goal

pub entry_at-requires-clause-head : goal.entry_at-requires-clause-head
entry_at-requires-clause-head c =
    omega (arith, c.requires, entries_length c.self.inside.count c.self.inside.body.now, ap length c.self.view_is, heads_within c.self.inside.count c.self.inside.body.now c.self.invariant)

pub entry_at-requires-clause-area : goal.entry_at-requires-clause-area
entry_at-requires-clause-area c =
    let h : c.args.i < c.self.inside.count = omega (arith, c.requires, entries_length c.self.inside.count c.self.inside.body.now, ap length c.self.view_is) in
    (c.self.invariant.each c.args.i h).ordered

pub entry_at-requires-clause-within : goal.entry_at-requires-clause-within
entry_at-requires-clause-within c =
    let h : c.args.i < c.self.inside.count = omega (arith, c.requires, entries_length c.self.inside.count c.self.inside.body.now, ap length c.self.view_is) in
    area_within c.self.inside.count c.self.inside.body.now c.self.invariant c.args.i (omega arith)

pub returns : goal.returns
returns c =
    let h : c.args.i < c.self.inside.count = omega (arith, c.requires, entries_length c.self.inside.count c.self.inside.body.now, ap length c.self.view_is) in
    ap (λ (z : List EntryValue). slice_get z c.args.i) (sym c.self.view_is) ∙ entry_is c.self.inside.count c.self.inside.body.now c.args.i h ∙ ap Some (sym c.entry_at.ensures)
