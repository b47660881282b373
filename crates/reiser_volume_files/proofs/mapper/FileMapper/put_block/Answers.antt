use Rattle.reiser_volume_files.proofs.Imports.{Some, ◌≡◌, arith}
use Rattle.reiser_volume_files.proofs.Joining.{block_placed}
use Rattle.reiser_volume_files.proofs.mapper.FileMapper.put_block.Goals as goal

pub returns-clause-runs : goal.returns-clause-runs
returns-clause-runs c = λ f g is others low held.
    let at : c.go_to.new.self.next ≡ c.args.k = omega (arith, c.in_ok-go_to.ensures.next, low) in
    block_placed c.go_to.new.self (Some c.args.from) f g c.args.k at is others (c.in_ok-go_to.ensures.same f held)
