-- What the proofs of castagnoli import of std, of lower crates and of its specs.
pub use Rattle.std.proofs.Common.{Bool, List, ap, arith, bit_xor, cond, drop, drop-cons, fold, get_or, length, length-drop, nat_eq, refl, slice_index, subst, suc, sym, take, true, zero, ℕ, ◌%◌, ◌*◌, ◌++◌, ◌+◌, ◌-◌, ◌/◌, ◌<◌, ◌^◌, ◌∙◌, ◌≡◌, ◌≤◌}
pub use Rattle.castagnoli.specs.Castagnoli.{polynomial, shifted_by}
unfoldable pub use Rattle.castagnoli.specs.Castagnoli.{after_byte, data_ref_hash, raw_crc, shifted}
