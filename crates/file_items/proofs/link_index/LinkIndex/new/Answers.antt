use Rattle.file_items.proofs.Imports.{ℕ, length, subst, sym, ◌∙◌, links_in, AreBelow}
use Rattle.file_items.proofs.Linked.{places_sorted, below_sorted}
use Rattle.file_items.proofs.link_index.LinkIndex.new.Goals as goal

pub invariant_of-result : goal.invariant_of-result
invariant_of-result c = record {
  dirs_below =
      subst (λ (n : ℕ). AreBelow n c.in_ok-by_dir.by_dir) (sym c.link_count-count.ensures.exact)
      (below_sorted (length (links_in c.args.volume.now)) c.in_ok-dir_spots.field-0.items c.in_ok-by_dir.by_dir c.in_ok-dir_spots.ensures.below c.in_ok-by_dir.ensures);
  targets_below =
      subst (λ (n : ℕ). AreBelow n c.in_ok-by_target.by_target) (sym c.link_count-count.ensures.exact)
      (below_sorted (length (links_in c.args.volume.now)) c.in_ok-target_spots.field-0.items c.in_ok-by_target.by_target c.in_ok-target_spots.ensures.below c.in_ok-by_target.ensures);
  extended_count = c.in_ok-extended.ensures.count ∙ sym c.link_count-count.ensures.exact;
}

pub returns-clause-index : goal.returns-clause-index
returns-clause-index c = λ image accepted opened. record {
  dirs = places_sorted c.args.volume.now (λ n. n.dir) (links_in c.args.volume.now) c.in_ok-dir_spots.field-0.items c.in_ok-by_dir.by_dir (c.in_ok-dir_spots.ensures.places image opened) c.in_ok-by_dir.ensures;
  targets = places_sorted c.args.volume.now (λ n. n.target) (links_in c.args.volume.now) c.in_ok-target_spots.field-0.items c.in_ok-by_target.by_target (c.in_ok-target_spots.ensures.places image opened) c.in_ok-by_target.ensures;
  extended = c.in_ok-extended.ensures.extended image opened;
}
