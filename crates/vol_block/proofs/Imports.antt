-- What the proofs of vol_block import of std, of lower crates and of its specs.
pub use Rattle.std.proofs.Common.{List, [], add-one, ap, append_assoc, arith, drop, get_or, leb, length, length-append, length-drop, length-take, ltb, refl, suc, sym, take, zero, ℕ, ◌&&◌, ◌*◌, ◌++◌, ◌+◌, ◌-◌, ◌/◌, ◌<◌, ◌∙◌, ◌∷◌, ◌≡◌, ◌≤◌}
pub use Rattle.std.proofs.lemmas.List.{append-nil, drop_all, take_all, take_at}
pub use Rattle.vol_block.specs.Field.{field_bytes, field_width, fields_bytes, fields_width}
pub use Rattle.vol_block.specs.Volume.{IsReserved, is_reserved, put_field}
