use Rattle.reiser_make.proofs.Imports.{ℕ, ap, subst, ◌∙◌, WritesOnly, needed, IsUsed, Usage}
use Rattle.reiser_make.proofs.maker.make_version.Goals as goal

abbrev usage_as : ℕ → ℕ → Usage
usage_as needed blocks = record { needed = needed; blocks = blocks }

pub returns-in_err-write_volume-clause-only : goal.returns-in_err-write_volume-clause-only
returns-in_err-write_volume-clause-only g c = λ tells.
    subst (λ n. WritesOnly (λ b _. IsUsed (usage_as n c.args.blocks) b) (g.D.Disk.history c.args.disk.now) (g.D.Disk.history c.write_volume.new.disk))
    (c.needed.ensures ∙ ap needed c.in_ok-plan.ensures) (c.write_volume.ensures.only tells)

pub returns-clause-only : goal.returns-clause-only
returns-clause-only g c = λ tells.
    subst (λ n. WritesOnly (λ b _. IsUsed (usage_as n c.args.blocks) b) (g.D.Disk.history c.args.disk.now) (g.D.Disk.history c.write_volume.new.disk))
    (c.needed.ensures ∙ ap needed c.in_ok-plan.ensures) (c.write_volume.ensures.only tells)
