use Rattle.file_items.proofs.Imports.{arith, accepted_is_small, superblock}
use Rattle.file_items.proofs.items.Rest.add_next.Goals as goal

pub returns-in_ok-add_next-in-Image-clause-next : goal.returns-in_ok-add_next-in-Image-clause-next
returns-in_ok-add_next-in-Image-clause-next g c = λ tells image is accepted opened placed fits.
    let small = (accepted_is_small image accepted).blocks in
    rw c.in-Image.is (c.in_ok-add_next-in-Image.ensures.next (superblock image).blocks (omega (arith, small)) placed, tt)
