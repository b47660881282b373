use Rattle.convert_options.proofs.Imports.{◌∙◌, map, string_bytes}
use Rattle.convert_options.proofs.Asking.{asked_convert}
use Rattle.convert_options.proofs.asked.read_convert_options.Goals as goal

pub returns-clause-read : goal.returns-clause-read
returns-clause-read c = c.read_beside.ensures.read ∙ asked_convert c.none.result (map string_bytes c.args.words.now) c.none.ensures
