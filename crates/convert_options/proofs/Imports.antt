-- What the proofs of convert_options import of std, of lower crates and of its specs.
pub use Rattle.std.proofs.Common.{Bool, List, None, Option, Some, String, [], ap, arith, cond, drop, false, get_or, inl, inr, length, map, nat_eq, not, refl, string_bytes, sym, take, true, ℕ, ◌&&◌, ◌-◌, ◌<◌, ◌||◌, ◌∙◌, ◌∷◌, ◌≡◌, ◌≤◌}
pub use Rattle.std.specs.Prelude.{option_and_then, option_map}
pub use Rattle.btr_node.specs.NodeSize.{IsNodeSize}
pub use Rattle.convert_options.specs.Asked.{are_new, asked_by, has_verbose, is_verbose, options_beside, options_of_convert, without_verbose}
pub use Rattle.convert_options.specs.Reading.{first_setting, has, none_given, with_given, with_value}
pub use Rattle.convert_options.specs.Settings.{HasNodeSize, alone, are_apart, before, options, plain, same_kind, settings, valued, with_setting, with_settings}
pub use Rattle.convert_options.specs.declared.given.Given.{Given}
pub use Rattle.convert_options.specs.declared.options.Options.{Options}
pub use Rattle.convert_options.specs.declared.setting.Setting.{Setting}
