use Rattle.reiser_volume_names.proofs.Attributes.{extra_blamed}
use Rattle.reiser_volume_names.proofs.private.check_directory.Goals as goal

pub returns-in-Err-clause-checked : goal.returns-in-Err-clause-checked
returns-in-Err-clause-checked c = λ items noted. extra_blamed items c.args.dir c.args.objects.now.namings.items noted.namings c.in-Err.key c.attributes-in-Err.result c.in-Err.ensures c.attributes-in-Err.ensures

pub returns-in-Ok-clause-checked : goal.returns-in-Ok-clause-checked
returns-in-Ok-clause-checked c = λ items noted. c.check_only.ensures.checked items noted (c.is_readable.ensures.yes items noted c.if-not-is_readable.false) c.in-Ok.ensures
