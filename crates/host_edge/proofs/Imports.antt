-- What the proofs of host_edge import of std, of lower crates and of its specs.
pub use Rattle.std.proofs.Common.{length, ◌-◌, ◌<◌, ◌≤◌}
