use Rattle.convert_options.proofs.Imports.{◌≡◌, length, map, string_bytes, IsNodeSize, options}
use Rattle.convert_options.proofs.OneByOne.{rest_of}
use Rattle.convert_options.proofs.read.read_options.Given as goal

abbrev pub invariant-loop-rest : goal.invariant-loop-rest
invariant-loop-rest l = record {
  same : rest_of l.given l.options (map string_bytes l.rest) ≡ options (map string_bytes l.fn.words);
  size : IsNodeSize l.options.nodesize;
}

abbrev pub decreases-loop-rest : goal.decreases-loop-rest
decreases-loop-rest l = length l.rest
