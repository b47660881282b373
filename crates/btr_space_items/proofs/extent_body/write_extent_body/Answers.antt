use Rattle.btr_space_items.proofs.Imports.{ℕ, ◌∙◌, ap, drop, length, [], refl, sym, append-nil, take_at, extent_head_bytes}
use Rattle.btr_space_items.proofs.BodyLengths.{length-head_bytes}
use Rattle.btr_space_items.proofs.extent_body.write_extent_body.Goals as goal

pub loop-reference-init : goal.loop-reference-init
loop-reference-init c = record {
  same = refl;
  place = refl;
  bytes = take_at c.write.new.into (drop 24 c.args.into.now) 24 (ap length c.write.ensures ∙ length-head_bytes _) ∙ (c.write.ensures ∙ (ap (λ (n : ℕ). extent_head_bytes (record { refs = n; generation = c.args.generation; flags = c.args.flags })) c.all_uses.ensures ∙ sym (append-nil _)));
}
