use Rattle.extent_pieces.proofs.Imports.{◌++◌, ◌∙◌, ap, refl, sym, append-nil, RunFrom, owned_by_run, tails_by_run}
use Rattle.extent_pieces.proofs.parts.FileParts.add_run.Goals as goal

pub returns-in_ok-push-in-Disk : goal.returns-in_ok-push-in-Disk
returns-in_ok-push-in-Disk c = λ few.
    let run = c.args.run in
    record {
      owned = c.in_ok-push-in-Disk.ensures.items ∙ ap (λ (from : RunFrom). c.args.self.now.owned.items ++ owned_by_run c.args.inode run.at run.count from) (sym c.in-Disk.is);
      tails = sym (ap (λ (from : RunFrom). c.args.self.now.tails.items ++ tails_by_run c.args.inode run.at run.count from) c.in-Disk.is ∙ append-nil c.args.self.now.tails.items);
      inlines = refl;
      bytes = refl;
    }
