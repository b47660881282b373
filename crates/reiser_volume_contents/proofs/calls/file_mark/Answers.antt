use Rattle.reiser_volume_contents.proofs.Imports.{◌≤◌, List, ℕ, length, ap, arith, object_items}
use Rattle.reiser_volume_contents.proofs.Files.{file_items}
use Rattle.reiser_volume_contents.proofs.Naming.{names_own}
use Rattle.reiser_volume_contents.proofs.calls.file_mark.Goals as goal

pub returns-clause-mark : goal.returns-clause-mark
returns-clause-mark g c = λ tells tree image used is holds.
    let room : length image ≤ g.S.BlockSource.size c.args.src.now = omega (arith, g.met.S.BlockSource.size_is c.args.src.now tells, ap (length {A = List ℕ}) is) in
    c.mark_items.ensures.mark tells image is (object_items tree image used c.args.key) (file_items c.args.objects.now c.args.key tree image used (g.S.BlockSource.size c.args.src.now) room holds) (c.new.ensures.begins tree image used holds)

pub returns-clause-names : goal.returns-clause-names
returns-clause-names g c = λ items noted.
    let from = c.new.ensures.from items noted in
    names_own c.args.key items c.args.objects.now.leaves from.0 c.mark_items.result from.1 (c.mark_items.ensures.names from.0 from.2)
