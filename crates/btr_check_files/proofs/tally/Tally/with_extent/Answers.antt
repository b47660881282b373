use Rattle.btr_check_files.proofs.Imports.{refl, Item, extents_of}
use Rattle.btr_check_files.proofs.Tallying.{no_tally, tally_extent}
use Rattle.btr_check_files.proofs.tally.Tally.with_extent.Goals as goal

pub returns-in-Some : goal.returns-in-Some
returns-in-Some c = λ own is.
    let i : Item = (c.args.key.now, c.args.body.now) in
    let more = c.in-Some.ensures (extents_of own) i refl refl is.kept is.run in
    (tally_extent c.args.sup.now own c.args.self i is _ refl refl refl refl c.requires more.0 more.1, refl)

pub returns-in-None : goal.returns-in-None
returns-in-None c = λ own is.
    let i : Item = (c.args.key.now, c.args.body.now) in
    no_tally c.args.sup.now own c.args.self i is c.requires (c.in-None.ensures (extents_of own) i refl refl is.kept is.run)
