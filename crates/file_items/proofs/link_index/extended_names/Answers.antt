use Rattle.file_items.proofs.Imports.{◌≡◌, ◌+◌, List, length, map, get_or, nat_lt, Some, refl, ap, ◌∙◌, arith, slice_get, take_all, keys, capped, Naming, links_in, indexed_links}
use Rattle.file_items.proofs.Linked.{no_naming, link_there, sizes_more, flags_more}
use Rattle.file_items.proofs.link_index.extended_names.Goals as goal

pub loop-n-preserved : goal.loop-n-preserved
loop-n-preserved c =
    let links : List Naming = links_in c.args.volume.now in
    let x : Naming = get_or links c.loop-n.n no_naming in
    let there : slice_get links c.loop-n.n ≡ Some x = link_there links c.loop-n.n (omega arith) in
    let size_is : c.saturating_add-size.result ≡ capped (length x.name + 10) = omega (arith, c.saturating_add-size.ensures, ap length (c.link-link.ensures.name x there)) in
    record {
      count = omega (arith, c.in_ok-push.ensures.len, c.loop-n.invariant.count);
      sizes = λ image opened.
          sizes_more (keys c.args.volume.now.named) opened.are_keys.once c.loop-n.sizes c.add_size.new.sizes links c.loop-n.n x c.link-link.result.dir c.link-link.result.object c.saturating_add-size.result c.in_ok-size.size there
          (c.link-link.ensures.ends image opened x there).0 (c.link-link.ensures.ends image opened x there).1 size_is c.in_ok-size.ensures.size (c.loop-n.invariant.sizes image opened) c.in_ok-size.ensures.sizes;
      extended = λ image opened.
          flags_more (keys c.args.volume.now.named) opened.are_keys.once c.loop-n.sizes c.add_size.new.sizes links c.loop-n.n x c.link-link.result.dir c.link-link.result.object c.saturating_add-size.result c.in_ok-size.size there
          (c.link-link.ensures.ends image opened x there).0 (c.link-link.ensures.ends image opened x there).1 size_is c.in_ok-size.ensures.size (c.loop-n.invariant.sizes image opened)
          c.loop-n.extended.items c.push.new.self.items (nat_lt 3900 c.in_ok-size.size) (c.loop-n.invariant.extended image opened) refl c.in_ok-push.ensures.items;
    }

pub returns-clause-count : goal.returns-clause-count
returns-clause-count c = omega arith

pub returns-clause-extended : goal.returns-clause-extended
returns-clause-extended c = λ image opened. c.loop-n.invariant.extended image opened ∙ ap (λ (l : List Naming). map (λ e. e.extended) (indexed_links l)) (take_all c.loop-n.n (links_in c.args.volume.now) (omega arith))
