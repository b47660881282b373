use Rattle.reiser_volume.proofs.Imports.{filter, sym, subst, err_from_is_err_and, VolAnswer, RefusesVolume, IsVerdict, is_known, volume_items, keys_found, known_named, stat_found, sorted_reach, links_found}
use Rattle.reiser_volume.proofs.Refusals.{objects_refused, names_refused}
use Rattle.reiser_volume.proofs.gather.gather.Goals as goal

pub returns-in_err-reached-clause-gathered : goal.returns-in_err-reached-clause-gathered
returns-in_err-reached-clause-gathered c = λ image found noted.
    let err = err_from_is_err_and c.from_residual.result c.from_residual.ensures.1 in
    rw err.1 (subst (λ (e : VolAnswer). RefusesVolume image e) (sym err.2) (objects_refused image c.args.sup c.args.bitmap found c.in_err-reached.field-0.0 (c.in_err-reached.ensures.refused (volume_items image) noted)))

pub returns-in_err-named-clause-gathered : goal.returns-in_err-named-clause-gathered
returns-in_err-named-clause-gathered c = λ image found noted.
    let err = err_from_is_err_and c.from_residual-in_err-named.result c.from_residual-in_err-named.ensures.1 in
    rw err.1 (subst (λ (e : VolAnswer). RefusesVolume image e) (sym err.2) tt)

pub returns-in_err-check_all_names-clause-gathered : goal.returns-in_err-check_all_names-clause-gathered
returns-in_err-check_all_names-clause-gathered c = λ image found noted.
    let items = volume_items image in
    let err = err_from_is_err_and c.from_residual-in_err-check_all_names.result c.from_residual-in_err-check_all_names.ensures.1 in
    rw err.1 (subst (λ (e : VolAnswer). RefusesVolume image e) (sym err.2)
    (names_refused image c.args.sup c.args.bitmap found c.in_err-check_all_names.field-0.0 (c.in_ok-reached.ensures.sound items noted) (c.in_err-check_all_names.ensures.checked items noted (sorted_reach items c.in_ok-reached.reached c.in_ok-named.named (c.in_ok-reached.ensures.named items noted) c.in_ok-named.ensures.same))))

pub returns-in_err-table-clause-gathered : goal.returns-in_err-table-clause-gathered
returns-in_err-table-clause-gathered c = λ image found noted.
    let err = err_from_is_err_and c.from_residual-in_err-table.result c.from_residual-in_err-table.ensures.1 in
    rw err.1 (subst (λ (e : VolAnswer). RefusesVolume image e) (sym err.2) tt)

pub returns-in_err-links-clause-gathered : goal.returns-in_err-links-clause-gathered
returns-in_err-links-clause-gathered c = λ image found noted.
    let err = err_from_is_err_and c.from_residual-in_err-links.result c.from_residual-in_err-links.ensures.1 in
    rw err.1 (subst (λ (e : VolAnswer). RefusesVolume image e) (sym err.2) tt)

pub returns-in_err-links-clause-answers : goal.returns-in_err-links-clause-answers
returns-in_err-links-clause-answers c =
    let err = err_from_is_err_and c.from_residual-in_err-links.result c.from_residual-in_err-links.ensures.1 in
    rw err.1 (subst (λ (e : VolAnswer). IsVerdict e) (sym err.2) tt)

pub returns-clause-gathered : goal.returns-clause-gathered
returns-clause-gathered c = λ image found noted.
    let items = volume_items image in
    let reach = sorted_reach items c.in_ok-reached.reached c.in_ok-named.named (c.in_ok-reached.ensures.named items noted) c.in_ok-named.ensures.same in
    let stats = c.in_ok-table.ensures.stats items noted in (
      record {
        clean = found.clean;
        system = found.system;
        tree = found.tree;
        objects = c.in_ok-reached.ensures.sound items noted;
        names = c.in_ok-check_all_names.ensures.checked items noted reach;
      },
      record {
        sup = found.fields;
        bitmap = found.bits;
        are_keys = keys_found items c.in_ok-table.table c.in_ok-named.named stats reach c.in_ok-table.ensures.once;
        ascends = c.in_ok-table.ensures.ascends;
        stats = stat_found items c.in_ok-table.table c.in_ok-named.named stats reach;
        noted = noted;
        visible = filter (λ n. is_known c.in_ok-table.table n.dir) c.args.objects.namings.items;
        are_links = links_found items c.args.objects.namings.items (is_known c.in_ok-table.table) noted.namings (known_named items c.in_ok-table.table c.in_ok-named.named stats reach);
      },
    )
