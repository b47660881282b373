-- What the proofs of sink_text import of std, of lower crates and of its specs.
pub use Rattle.std.proofs.Common.{Err, IsErr, IsTrue, List, Ok, Result, [], add-one, ap, append-nil, append_assoc, arith, decimal, drop, get_or, length, length-append, length-take, min, subst, suc, sym, take, ℕ, ◌++◌, ◌+◌, ◌-◌, ◌<◌, ◌∙◌, ◌∷◌, ◌≡◌, ◌≤◌}
pub use Rattle.outside.specs.Fault.{Takes}
pub use Rattle.sink_text.specs.Digits.{hex_pair, hex_text}
pub use Rattle.sink_text.specs.Escape.{escape, escaped}
pub use Rattle.sink_text.specs.Pushes.{Pushed, Pushes, Stopped}
pub use Rattle.sink_text.specs.Text.{piece_text, text_of}
