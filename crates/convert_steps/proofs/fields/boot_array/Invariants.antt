use Rattle.convert_steps.proofs.Imports.{◌≡◌, ◌-◌, ◌++◌, length, take, replicate, boot_bytes}
use Rattle.convert_steps.proofs.fields.boot_array.Given as goal

abbrev pub invariant-loop-i : goal.invariant-loop-i
invariant-loop-i l = record {
  end_ : l.end ≡ length (boot_bytes l.ids (take l.i l.chunks));
  built : l.array ≡ boot_bytes l.ids (take l.i l.chunks) ++ replicate (2048 - length (boot_bytes l.ids (take l.i l.chunks))) 0;
}
