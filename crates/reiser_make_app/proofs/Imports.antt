-- What the proofs of reiser_make_app import of std, of lower crates and of its specs.
pub use Rattle.std.proofs.Common.{Bool, List, [], ap, arith, inl, inr, length, map, refl, subst, sym, ℕ, ◌-◌, ◌<◌, ◌^◌, ◌↔◌, ◌∷◌, ◌≡◌, ◌≢◌, ◌≤◌, ◌⊎◌}
pub use Rattle.std.specs.Prelude.{None, Option, Some}
pub use Rattle.reiser_make_app.specs.Ending.{error_line, status}
pub use Rattle.reiser_make_app.specs.Order.{Ordered, seen, three_words}
pub use Rattle.reiser_make_app.specs.Outcome.{EndsRight, FitsDevice, HasSample, HasSampleRoom, IsMade, TellsFault, Uses, needed_by}
pub use Rattle.reiser_make_app.specs.declared.make_ending.MakeEnding.{MakeEnding}
pub use Rattle.sink_text.specs.outside.Fault.{Rose, Takes}
pub use Rattle.sink_text.specs.outside.History.{History, IsSettled, WritesOnly, after, reads, synced}
