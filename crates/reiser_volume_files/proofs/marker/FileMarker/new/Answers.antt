use Rattle.reiser_volume_files.proofs.Imports.{[], arith, content}
use Rattle.reiser_volume_files.proofs.Contents.{empty_content}
use Rattle.reiser_volume_files.proofs.marker.FileMarker.new.Goals as goal

pub returns-clause-none : goal.returns-clause-none
returns-clause-none c = λ image.
    record {
      bytes = c.new.ensures.none (content image [] c.new.result.size) (λ n. empty_content image c.new.result.size n);
      reached = λ b ends. omega (arith, c.new.ensures.next);
    }
