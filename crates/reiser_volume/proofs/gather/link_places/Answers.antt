use Rattle.reiser_volume.proofs.Imports.{◌≡◌, ◌<◌, List, length, get_or, map, Some, sym, ap, refl, ◌∙◌, arith, slice_get, slice_get_read, get_or_from_slice_get, Naming, is_known, is_link}
use Rattle.reiser_volume.proofs.Placing.{place_more, place_same}
use Rattle.reiser_volume.proofs.gather.link_places.Goals.{then-is_link+in_ok-push, else-is_link}
use Rattle.reiser_volume.proofs.gather.link_places.Goals as goal

pub loop-i-preserved : goal.loop-i-preserved
loop-i-preserved c =
    let all : List Naming = c.args.objects.now.namings.items in
    let n : Naming = c.index.result.now in
    let test = is_link (is_known c.args.named.now) in
    let within : c.loop-i.i < length all = omega (arith, c.loop-i-test.true, c.len-i-end.ensures) in
    let there : slice_get all c.loop-i.i ≡ Some n = slice_get_read all (length all) c.loop-i.i n refl within c.index.ensures in
    let at : n ≡ get_or all c.loop-i.i n = sym (get_or_from_slice_get all c.loop-i.i n n there) in
    elim c.if-is_link.branch [
      | then-is_link+in_ok-push w ↦
          ap (λ v. map (slice_get all) v.items) w.places-is
          ∙ (ap (map (slice_get all)) w.in_ok-push.ensures.items
          ∙ place_more test all c.loop-i.places.items c.loop-i.i n within at c.loop-i.invariant (sym c.is_link.ensures ∙ w.if-is_link.true) there)
      | else-is_link w ↦
          ap (λ v. map (slice_get all) v.items) w.places-is
          ∙ place_same test all c.loop-i.places.items c.loop-i.i n within at c.loop-i.invariant (sym c.is_link.ensures ∙ w.if-is_link.false)
    ]
