use Rattle.btr_check_sums.proofs.Imports.{◌≡◌, ◌<◌, ◌+◌, ◌++◌, ◌∷◌, [], ℕ, List, Option, Some, arith, subst, sym, ◌∙◌, All-push, err_from_is_err_and, All, IfSome, place, SumKind, TellsPart, BreaksSums, HoldsFirst, due_sum, TellsPlaces, DueSum, PlaceRun}
use Rattle.btr_reader_walk.proofs.Mapping.{place_within}
use Rattle.btr_check_sums.proofs.DueSteps.{due_more}
use Rattle.btr_check_sums.proofs.due_sum.DataPass.note_sum.Goals as goal

pub returns-in_err-make_room-clause-holds : goal.returns-in_err-make_room-clause-holds
returns-in_err-make_room-clause-holds g c = λ tells image is items i k holds low at told_is.
    let told = c.in_err-make_room.ensures.holds tells image is c.args.ranges.now items i k holds in
    let err = err_from_is_err_and c.from_residual.result c.from_residual.ensures.1 in
    rw err.1 (subst (TellsPart (BreaksSums image c.args.ranges.now c.args.self.now.kind (items ++ i ∷ []))) (sym err.2) told)

pub returns-clause-ready : goal.returns-clause-ready
returns-clause-ready g c =
    let size = g.S.BlockSource.size c.args.src.now in
    let d : DueSum = c.due_at.result in
    let inside = place_within size c.args.ranges.now c.args.address c.in-Some.place c.requires.lying (sym c.in-Some.ensures.place) in
    let low : d.block < size = omega (arith, inside, c.due_at.ensures.block) in
    record {
      inside = subst (λ (xs : List DueSum). All (λ (x : DueSum). x.block < size) xs) (sym c.in_ok-add.ensures.added)
          (All-push (λ (x : DueSum). x.block < size) c.make_room.new.self.due.items d c.in_ok-make_room.ensures.inside low);
      hand = subst (λ (h : Option PlaceRun). IfSome h (TellsPlaces c.args.ranges.now)) (sym (c.add.ensures.hand ∙ c.make_room.ensures.hand)) c.find_place.ensures.hand;
    }

pub returns-clause-holds : goal.returns-clause-holds
returns-clause-holds g c = λ tells image is items i k holds low at told_is.
    let sums = c.args.self.now.kind in
    let d : DueSum = c.due_at.result in
    let first = c.in_ok-make_room.ensures.holds tells image is c.args.ranges.now items i k holds in
    let sum = subst (λ (s : SumKind). due_sum s d ≡ c.args.told.now) c.make_room.ensures.kind c.due_at.ensures.sum in
    subst (λ (xs : List DueSum). HoldsFirst image c.args.ranges.now sums items i (k + 1) xs) (sym c.in_ok-add.ensures.added)
    (due_more image c.args.ranges.now sums items i k c.make_room.new.self.due.items d c.in-Some.place first low (sym (c.due_at.ensures.address ∙ at))
    (subst (λ (x : ℕ). place c.args.ranges.now x ≡ Some c.in-Some.place) at (sym c.in-Some.ensures.place)) c.due_at.ensures.block (sum ∙ told_is))
