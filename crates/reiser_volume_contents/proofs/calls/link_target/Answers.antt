use Rattle.reiser_volume_contents.proofs.Imports.{object_items}
use Rattle.reiser_volume_contents.proofs.Files.{link_answer}
use Rattle.reiser_volume_contents.proofs.Naming.{memory_names}
use Rattle.reiser_volume_contents.proofs.calls.link_target.Goals as goal

pub returns-clause-target : goal.returns-clause-target
returns-clause-target g c = λ tells tree image used is holds.
    let tail = c.in_ok-file_tail.ensures.tail tells tree image used is holds.object in
    link_answer image (object_items tree image used c.args.key) c.args.size c.name_in.result c.requires holds.fits (c.name_in.ensures.name (object_items tree image used c.args.key) tail) c.name_in.ensures.memory

pub returns-clause-names : goal.returns-clause-names
returns-clause-names g c = λ items noted. memory_names c.args.key items c.args.objects.now.leaves c.name_in.result c.name_in.ensures.memory
