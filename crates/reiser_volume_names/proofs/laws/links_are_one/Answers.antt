use Rattle.reiser_volume_names.proofs.Uniqueness.{visible_one, links_one}
use Rattle.reiser_volume_names.proofs.laws.links_are_one.Goals as goal

pub returns : goal.returns
returns c = λ items visible links also_visible also_links a b. (visible_one items visible links also_visible also_links a b, links_one items visible links also_visible also_links a b)
