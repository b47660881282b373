use Rattle.convert_steps.proofs.Imports.{◌≡◌, ◌<◌, sym, ap, subst, ◌∙◌, arith, err_from_is_err_and, IsFault, reads, keys}
use Rattle.convert_steps.proofs.Moving.{at_place, made_block}
use Rattle.convert_steps.proofs.pieces.write_tail.Goals as goal

pub returns-in_err-tail-clause-written : goal.returns-in_err-tail-clause-written
returns-in_err-tail-clause-written g c = λ tells image is accepted opened inside low key among number.
    let blocks = g.met.D.Disk.open_blocks c.args.disk.now _ tells c.requires.«open» in
    let there = at_place (keys c.args.volume.now.named) key c.place_of.result c.in-Some.object c.in-Some.is (c.place_of.ensures.named image accepted opened key among number) in
    let err = err_from_is_err_and c.from_residual.result c.from_residual.ensures.1 in
    rw err.1 (subst IsFault (sym err.2) (c.in_err-tail.ensures.tail tells image (blocks ∙ is) accepted opened key there))

pub returns-clause-written : goal.returns-clause-written
returns-clause-written g c = λ tells image is accepted opened inside low key among number.
    let blocks = g.met.D.Disk.open_blocks c.args.disk.now _ tells c.requires.«open» in
    let there = at_place (keys c.args.volume.now.named) key c.place_of.result c.in-Some.object c.in-Some.is (c.place_of.ensures.named image accepted opened key among number) in
    let same : reads (g.D.Disk.history c.tail.new.src) ≡ reads (g.D.Disk.history c.args.disk.now) = ap reads (g.met.D.Disk.kept_history _ _ tells c.tail.ensures.kept) in
    let fits : c.args.place < g.D.BlockSource.size c.tail.new.src = omega (arith, inside, g.met.D.BlockSource.kept_size _ _ c.tail.ensures.kept) in
    made_block c.put_block.result image _ _ c.args.place _ _ (same ∙ is) (c.in_ok-tail.ensures.tail tells image (blocks ∙ is) accepted opened key there) (c.put_block.ensures.written tells fits)
