use Rattle.file_items.proofs.Imports.{MatchResult-weaker, items_of, stat_at, volume_items}
use Rattle.file_items.proofs.Held.{file_inline}
use Rattle.file_items.proofs.contents.is_inline.Goals as goal

pub returns-then-inline-clause-test : goal.returns-then-inline-clause-test
returns-then-inline-clause-test g c = λ tells image is accepted opened key at.
    MatchResult-weaker c.is_inline_file.result (c.is_inline_file.ensures.test tells image is accepted opened key at)
    (λ test h. file_inline c.args.inline (items_of key (volume_items image)) (stat_at (volume_items image) key).fields.size c.args.kind test c.in-File.is c.if-inline.true h) (λ e h. h)
