use Rattle.file_items.proofs.Imports.{◌≡◌, ◌<◌, ◌∙◌, Bool, List, length, ap, sym, subst, arith, err_from_is_err_and, keys, IsFaultOrMemory, accepted_is_small, superblock, Volume, Piece, IsKnown, AddsExtent, file_ahead, Basis, FileInHand, FileTree}
use Rattle.file_items.proofs.Stepping.{extent_steps, no_object, tree_ends, next_object, object_steps}
use Rattle.file_items.proofs.files.FileTree.add_next.Goals as goal

pub returns-then-branch-clause-next : goal.returns-then-branch-clause-next
returns-then-branch-clause-next g c = λ tells image is accepted opened placed known.
    let volume : Volume = c.args.volume.now in
    let all : List Piece = g.P.PieceList.pieces c.args.pieces.now in
    let before : FileTree = c.args.self.now in
    let after : FileTree = c.add_extent.new.self in
    let low = (accepted_is_small image accepted).blocks in
    let adds = c.in_ok-add_extent.ensures.next (superblock image).blocks (omega (arith, low)) placed in
    let one = subst (λ (b : Bool). AddsExtent b before.file after.file all c.args.items.now c.add_extent.new.items) c.if-branch.true adds in
    (extent_steps before after volume all image c.args.items.now c.add_extent.new.items c.add_extent.ensures.basis c.add_extent.ensures.begun one, subst (λ (b : Basis). IsKnown volume b.links b.numbers image) (sym c.add_extent.ensures.basis) known)

pub returns-then-self-count-clause-next : goal.returns-then-self-count-clause-next
returns-then-self-count-clause-next g c = λ tells image is accepted opened placed known.
    let volume : Volume = c.args.volume.now in
    let all : List Piece = g.P.PieceList.pieces c.args.pieces.now in
    let before : FileTree = c.args.self.now in
    let after : FileTree = c.add_extent.new.self in
    let low = (accepted_is_small image accepted).blocks in
    let adds = c.in_ok-add_extent.ensures.next (superblock image).blocks (omega (arith, low)) placed in
    let none = subst (λ (b : Bool). AddsExtent b before.file after.file all c.args.items.now c.add_extent.new.items) c.if-branch.false adds in
    let end_after = no_object (keys volume.named) before.basis.numbers.root after.begun known.numbers_are (omega (arith, c.if-self-count.true, c.count.ensures.exact)) in
    let end_before = no_object (keys volume.named) before.basis.numbers.root before.begun known.numbers_are (omega (arith, c.if-self-count.true, c.count.ensures.exact, c.add_extent.ensures.begun)) in (
      (tree_ends before volume all image none.0 end_before, tree_ends after volume all image (ap (λ (f : FileInHand). file_ahead f all) none.1 ∙ none.0) end_after, none.2),
      subst (λ (b : Basis). IsKnown volume b.links b.numbers image) (sym c.add_extent.ensures.basis) known,
    )

pub returns-in_err-add_object-clause-next : goal.returns-in_err-add_object-clause-next
returns-in_err-add_object-clause-next g c = λ tells image is accepted opened placed known.
    let volume : Volume = c.args.volume.now in
    let after : FileTree = c.add_extent.new.self in
    let told = subst (λ (b : Basis). IsKnown volume b.links b.numbers image) (sym c.add_extent.ensures.basis) known in
    let begun_less : after.begun < length (keys volume.named) = omega (arith, c.if-self-count.false, c.count.ensures.exact) in
    let root_is : after.basis.numbers.root ≡ c.args.self.now.basis.numbers.root = ap (λ (b : Basis). b.numbers.root) c.add_extent.ensures.basis in
    let root_less = c.requires.fits.root_within (omega (arith, begun_less)) in
    let within = c.place-place.ensures.within (length (keys volume.named)) (omega (arith, root_is, root_less)) begun_less in
    let next = next_object volume c.place-place.result after.begun within (c.place-place.ensures.place (keys volume.named) told.numbers_are begun_less) in
    let fault = c.in_err-add_object.ensures.next tells image is accepted opened placed told next.key next.at in
    let err = err_from_is_err_and c.from_residual-in_err-add_object.result c.from_residual-in_err-add_object.ensures.1 in
    rw err.1 (subst IsFaultOrMemory (sym err.2) fault)

pub returns-clause-next : goal.returns-clause-next
returns-clause-next g c = λ tells image is accepted opened placed known.
    let volume : Volume = c.args.volume.now in
    let all : List Piece = g.P.PieceList.pieces c.args.pieces.now in
    let before : FileTree = c.args.self.now in
    let after : FileTree = c.add_extent.new.self in
    let low = (accepted_is_small image accepted).blocks in
    let adds = c.in_ok-add_extent.ensures.next (superblock image).blocks (omega (arith, low)) placed in
    let none = subst (λ (b : Bool). AddsExtent b before.file after.file all c.args.items.now c.add_extent.new.items) c.if-branch.false adds in
    let told = subst (λ (b : Basis). IsKnown volume b.links b.numbers image) (sym c.add_extent.ensures.basis) known in
    let begun_less : after.begun < length (keys volume.named) = omega (arith, c.if-self-count.false, c.count.ensures.exact) in
    let root_is : after.basis.numbers.root ≡ c.args.self.now.basis.numbers.root = ap (λ (b : Basis). b.numbers.root) c.add_extent.ensures.basis in
    let root_less = c.requires.fits.root_within (omega (arith, begun_less)) in
    let within = c.place-place.ensures.within (length (keys volume.named)) (omega (arith, root_is, root_less)) begun_less in
    let next = next_object volume c.place-place.result after.begun within (c.place-place.ensures.place (keys volume.named) told.numbers_are begun_less) in
    let begun = c.in_ok-add_object.ensures.next tells image is accepted opened placed told next.key next.at in (
      object_steps before c.add_object.new.self after.basis volume all image c.place-place.result after.begun c.args.items.now c.add_extent.new.items c.add_object.new.items none.0 none.2 c.add_extent.ensures.basis c.add_object.ensures.basis c.add_extent.ensures.begun c.add_object.ensures.begun next begun,
      subst (λ (b : Basis). IsKnown volume b.links b.numbers image) (sym c.add_object.ensures.basis) told,
    )
