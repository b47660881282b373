use Rattle.btr_check_names.proofs.Imports.{rules, List, [], ◌∷◌, ◌++◌, ap, ◌∙◌, dir_entry_value, entry_by, IndexEntry}
use Rattle.btr_check_names.proofs.Listing.{entry_added}
use Rattle.btr_check_names.proofs.name_list.NameList.add.Goals as goal

pub returns : goal.returns
returns c =
    entry_added c.self.inside.letters.items c.args.e.now.name.now c.extend_from_slice.new.self.items c.self.inside.names.items c.push.new.self.items c.args.dir c.args.index c.args.e.now.kind c.len-start.result _ c.args.e.now.location
    c.self.invariant (search rules) (search rules) (search rules) c.in_ok-push.ensures.items
    ∙ ap (λ (es : List IndexEntry). es ++ record { entry = entry_by c.args.dir (dir_entry_value c.args.e.now); index = c.args.index } ∷ []) c.self.view_is
