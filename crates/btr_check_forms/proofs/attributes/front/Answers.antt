use Rattle.btr_check_forms.proofs.Imports.{◌≡◌, ◌+◌, ℕ, ap, sym, ◌∙◌, arith, take, drop, get_or-drop, ◌-◌, dir_entry_head}
use Rattle.btr_check_rules.specs.btr_reader.btr_keys.Key.{key_layout}
use Rattle.btr_check_forms.proofs.attributes.front.Goals as goal

pub returns : goal.returns
unfolding dir_entry_head key_layout
returns c =
    let width : 30 + c.u16_at.result - 30 ≡ c.u16_at.result = omega arith in
    λ i. record {
      location = c.at.ensures i;
      transid = c.u64_at.ensures i;
      data_length = c.u16_at-2.ensures i;
      kind = sym (get_or-drop 29 c.args.bytes.now 0 0) i;
      name = (ap (λ (n : ℕ). take n (drop 30 c.args.bytes.now)) (width ∙ c.u16_at.ensures)) i;
    }
