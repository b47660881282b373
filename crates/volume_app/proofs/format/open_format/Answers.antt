use Rattle.volume_app.proofs.Imports.{◌≡◌, ◌∙◌, ap, History, reads}
use Rattle.volume_app.proofs.format.open_format.Goals as goal

pub returns-clause-found : goal.returns-clause-found
returns-clause-found g c = λ tells.
    let same : g.D.BlockSource.blocks c.open.new.self ≡ reads (g.D.Disk.history c.args.disk.now) =
    g.met.D.Disk.open_blocks c.open.new.self _ tells c.in_ok-open.ensures.opened ∙ ap (λ (h : History). reads h) (c.open.ensures.unchanged tells) in
    c.find_format.ensures.found tells _ same
