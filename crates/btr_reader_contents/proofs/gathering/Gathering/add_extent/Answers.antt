use Rattle.btr_reader_contents.proofs.Imports.{◌≡◌, nat_eq, Option, [], ◌∷◌, ◌++◌, ap, sym, subst, ◌∙◌, err_from_is_err_and, Key, get, Hand, RefusesExtents, HasGathered}
use Rattle.btr_reader_contents.proofs.Gathered.{wanted_extent, own_extent, hand_added}
use Rattle.btr_reader_contents.proofs.gathering.Gathering.add_extent.Goals as goal

pub returns-in_err-add-clause-adds : goal.returns-in_err-add-clause-adds
returns-in_err-add-clause-adds g c = λ tells image is blocks plan given i top key body leaf wanted le has.
    let extent = wanted_extent plan i.key c.args.wanted wanted in
    let number : c.args.key.now.objectid ≡ i.key.objectid = sym (ap (λ (k : Key). k.objectid) key) in
    let taken = c.in_ok-hand.ensures.gathered plan image c.args.ranges.now given top (ap plan number ∙ extent.0) (rw key at le)
    (subst (λ (o : Option Hand). HasGathered plan image c.args.ranges.now given top (λ ino. get nat_eq c.args.self.now.done ino) o) (sym c.take.ensures.value) has) in
    let own = own_extent i _ (c.in_ok-hand.ensures.ino ∙ number) extent.1 in
    let bad = c.in_err-add.ensures.adds tells image is blocks plan given i key body leaf own taken.at.0 in
    let err = err_from_is_err_and c.from_residual-in_err-add.result c.from_residual-in_err-add.ensures.1 in
    rw err.1 (subst (RefusesExtents plan c.args.ranges.now (given ++ i ∷ [])) (sym err.2) bad)

pub returns-clause-adds : goal.returns-clause-adds
returns-clause-adds g c = λ tells image is blocks plan given i top key body leaf wanted le has.
    let extent = wanted_extent plan i.key c.args.wanted wanted in
    let number : c.args.key.now.objectid ≡ i.key.objectid = sym (ap (λ (k : Key). k.objectid) key) in
    let taken = c.in_ok-hand.ensures.gathered plan image c.args.ranges.now given top (ap plan number ∙ extent.0) (rw key at le)
    (subst (λ (o : Option Hand). HasGathered plan image c.args.ranges.now given top (λ ino. get nat_eq c.args.self.now.done ino) o) (sym c.take.ensures.value) has) in
    let own = own_extent i _ (c.in_ok-hand.ensures.ino ∙ number) extent.1 in
    let held = c.in_ok-add.ensures.adds tells image is blocks plan given i key body leaf own taken.at.0 in
    hand_added plan image c.args.ranges.now given i _ c.in_ok-hand.hand c.add.new.self (rw (sym key) at taken) (c.in_ok-hand.ensures.ino ∙ number) c.add.ensures.ino held
