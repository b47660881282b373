use Rattle.file_items.proofs.Imports.{◌<◌, ◌+◌, List, length, take, get_or, subst, arith, slice_get, take_all, slice_get-get_or, keys, Spot, told_long, Naming, links_in, HasNames, IndexedLink, indexed_links, names_of}
use Rattle.file_items.proofs.Named.{names_told, told_here, names_more}
use Rattle.file_items.proofs.object_names.ObjectNames.gather.Goals as goal

pub loop-i-preserved : goal.loop-i-preserved
loop-i-preserved c = λ image known key at.
    let links : List Naming = links_in c.args.volume.now in
    let spots : List Spot = c.names_of-spots.result.now in
    let es : List IndexedLink = names_of links key in
    let spot : Spot = get_or spots c.loop-i.i (record { of = 0; number = 0 }) in
    let within : c.loop-i.i < length spots = omega arith in
    let told = told_here links es spots c.loop-i.i spot (names_told c.args.volume.now c.args.links.now c.args.numbers image known c.args.place key at spots c.names_of-spots.ensures.spots) (slice_get-get_or spots c.loop-i.i (record { of = 0; number = 0 }) within) in
    names_more (keys c.args.volume.now.named) c.args.ino (take c.loop-i.i es) (take (c.loop-i.i + 1) es) told.entry c.loop-i.self c.add_name.new.self (c.loop-i.invariant image known key at) (c.in_ok-add_name.ensures image known told.entry told.there) told.more

pub returns : goal.returns
returns c = λ image known key at.
    let links : List Naming = links_in c.args.volume.now in
    let spots : List Spot = c.names_of-spots.result.now in
    let es : List IndexedLink = names_of links key in
    let long = told_long (λ (s : Spot). slice_get (indexed_links links) s.number) spots es (names_told c.args.volume.now c.args.links.now c.args.numbers image known c.args.place key at spots c.names_of-spots.ensures.spots) in
    subst (λ (l : List IndexedLink). HasNames (keys c.args.volume.now.named) c.args.ino l c.loop-i.self) (take_all c.loop-i.i es (omega (arith, long, c.loop-i-test.false))) (c.loop-i.invariant image known key at)
