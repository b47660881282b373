use Rattle.convert_options.proofs.Imports.{◌≡◌, length, map, string_bytes, IsNodeSize, has_verbose, without_verbose, plain}
use Rattle.convert_options.proofs.Asking.{left, told}
use Rattle.convert_options.proofs.OneByOne.{rest_of}
use Rattle.convert_options.proofs.asked.read_beside.Given as goal

abbrev pub invariant-loop-rest : goal.invariant-loop-rest
invariant-loop-rest l = record {
  same : rest_of l.given l.options (left l.verbose (map string_bytes l.rest)) ≡ rest_of l.fn.given plain (without_verbose (map string_bytes l.fn.words));
  told : told l.verbose (map string_bytes l.rest) ≡ has_verbose (map string_bytes l.fn.words);
  size : IsNodeSize l.options.nodesize;
}

abbrev pub decreases-loop-rest : goal.decreases-loop-rest
decreases-loop-rest l = length l.rest
