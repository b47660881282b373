use Rattle.reiser_volume.proofs.Imports.{IfOk-weaker}
use Rattle.reiser_volume.proofs.Leading.{has_paths}
use Rattle.reiser_volume.proofs.ways.paths_of.Goals as goal

pub returns : goal.returns
returns c = λ image accepted opened.
    IfOk-weaker c.paths.result _ _
    (λ list made. has_paths image c.args.volume.now c.in_ok-links.links.items c.node_of.result list.items accepted opened c.in_ok-links.ensures.links c.in_ok-links.ensures.fit c.node_of.ensures.node c.node_of.ensures.fits made)
    c.paths.ensures
