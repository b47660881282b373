use Rattle.convert_core.proofs.Imports.{◌∙◌, keys, links_in}
use Rattle.convert_core.proofs.survey.Survey.of.Goals as goal

pub returns-clause-cause : goal.returns-clause-cause
returns-clause-cause g c = record { later = c.in_ok-pieces.ensures.cause.later; failed = λ e. absurd cc; kept = λ other. c.in_ok-pieces.ensures.cause.kept (λ e. absurd cc) }

pub returns-clause-told : goal.returns-clause-told
returns-clause-told g c = λ tells image is accepted opened.
    let found = c.in_ok-pieces.ensures.found tells image is accepted opened in
    record {
      keys = keys c.args.volume.now.named;
      are_keys = opened.are_keys;
      ascend = opened.ascends;
      visible = opened.visible;
      links = links_in c.args.volume.now;
      are_links = opened.are_links;
      counts_are = c.counts-counts.ensures ∙ found.counts_are;
      need_is = c.needed.ensures.exact;
    }
