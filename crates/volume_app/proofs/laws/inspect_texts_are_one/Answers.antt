use Rattle.volume_app.proofs.OneText.{inspect_texts_are_one}
use Rattle.volume_app.proofs.laws.inspect_texts_are_one.Goals as goal

pub returns : goal.returns
returns c = inspect_texts_are_one
