use Rattle.btr_reader_contents.proofs.Imports.{[], refl, arith, content}
use Rattle.btr_reader_contents.proofs.ExtentContents.{empty_content}
use Rattle.btr_reader_contents.proofs.marker.ExtentMarker.new.Goals as goal

pub returns-clause-none : goal.returns-clause-none
returns-clause-none c = λ image ranges.
    record {
      reaches = record { sound = refl; end = refl; covered = refl };
      bytes = c.new.ensures.none (content image ranges [] c.new.result.size) (λ n. empty_content image ranges c.new.result.size n);
      near = omega (arith, c.new.ensures.next);
    }
