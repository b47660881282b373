-- How a run ends: its status and its line on the error sink.
use Rattle.std.specs.Prelude.{ℕ, List, [], ◌∷◌, ◌++◌, codes, decimal}
use Rattle.program_words.specs.refusals.declared.refusal.VolumeRefusal.TheVariants as volume
use Rattle.program_words.specs.command_answers.declared.answer.Answer.TheVariants as answers
use Rattle.program_words.specs.Lines.{answer_line, words_to_end}
use Rattle.reiser_make_app.specs.declared.make_ending.MakeEnding.{MakeEnding}
use Rattle.reiser_make_app.specs.declared.make_ending.MakeEnding.TheVariants.{Made, Usage, Short, Full, Fault, Memory}

abbrev pub status : MakeEnding → ℕ
status Made = 0
status Usage = 2
status (Short blocks device) = 1
status (Full needed blocks) = 6
status Fault = 3
status Memory = 4

abbrev pub usage_line : List ℕ
usage_line = codes "usage: sample_volume [--old] NUMBER BLOCKS PATH" ++ 10 ∷ []

-- the refusal of a volume on a device that is too short
abbrev pub short_line : ℕ → ℕ → List ℕ
short_line blocks device = answer_line (answers.Volume (volume.Short blocks device))

-- the number and the word of too little room, here with blocks: those that are needed, and those that are there
abbrev pub full_line : ℕ → ℕ → List ℕ
full_line needed blocks = codes "refused" ++ words_to_end (codes "15" ∷ codes "space" ∷ decimal needed ∷ decimal blocks ∷ [])

abbrev pub error_line : MakeEnding → List ℕ
error_line Made = []
error_line Usage = usage_line
error_line (Short blocks device) = short_line blocks device
error_line (Full needed blocks) = full_line needed blocks
error_line Fault = answer_line answers.Fault
error_line Memory = answer_line answers.Memory
