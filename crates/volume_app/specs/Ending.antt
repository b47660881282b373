-- How a run ends: its status, its line on the error sink, and what they mean of the disk that was found.
use Rattle.std.specs.Prelude.{ℕ, List, [], ◌∷◌, ◌++◌, codes}
use Rattle.volume_app.specs.declared.ending.Ending.{Ending}
use Rattle.volume_app.specs.declared.ending.Ending.TheVariants.{Done, Usage, Failed, OutputFault}
use Rattle.program_words.specs.Lines.{answer_line, answer_status}
use Rattle.volume_app.specs.Texts.{usage_line}

abbrev pub status : Ending → ℕ
status Done = 0
status Usage = 2
status (Failed answer) = answer_status answer
status OutputFault = 5

abbrev pub error_line : Ending → List ℕ
error_line Done = []
error_line Usage = usage_line
error_line (Failed answer) = answer_line answer
error_line OutputFault = codes "output fault" ++ 10 ∷ []
