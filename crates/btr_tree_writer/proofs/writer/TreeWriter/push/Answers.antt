use Rattle.btr_tree_writer.proofs.Imports.{◌≤◌, ◌<◌, ℕ, ◌+◌, ◌++◌, ◌∷◌, [], List, Err, Option, length, sym, ◌∙◌, ap, subst, map-append, flat_map, Key, Item, items_in, IsNodeSize, taken, leaves_of, Counted, lengths_of, TreeAnswer, Form, IsAbove, last_key}
use Rattle.btr_tree_writer.proofs.Pushing.{last_pushed, held_order, must_follow, must_be_short, too_few, bytes_fit, only_all, not_both, false_then, misfit_back, short_pushed}
use Rattle.btr_tree_writer.proofs.writer.TreeWriter.push.Goals as goal

pub returns-then-not-fits-clause-misfit : goal.returns-then-not-fits-clause-misfit
returns-then-not-fits-clause-misfit g c = λ form generation owner slots items rest w is writable.
    let above = must_follow items rest (c.args.key, c.args.body.now) writable.order in
    let short = must_be_short form.nodesize items rest (c.args.key, c.args.body.now) writable.short in
    not_both c.fits.result c.if-not-fits.true
    (c.fits.ensures.1 (subst (λ (k : Option Key). IsAbove k c.args.key) (sym w.last_is) above, subst (λ (n : ℕ). length c.args.body.now + 126 ≤ n) (sym w.sizes.0) short))

pub push-requires-clause-order : goal.push-requires-clause-order
push-requires-clause-order g c =
    let w = c.requires.ready.5 in
    let made = c.args.self.now.builder.made in
    let fits = c.fits.ensures.0 c.if-not-fits.false in
    held_order (flat_map items_in (w.holds.front ++ made.nodes)) made.draft.items c.args.key w.holds.standing.order
    (subst (λ (k : Option Key). IsAbove k c.args.key) (w.last_is ∙ ap last_key (sym w.holds.pushed_is)) fits.0)

pub returns-in_err-push-clause-misfit : goal.returns-in_err-push-clause-misfit
returns-in_err-push-clause-misfit g c = λ form generation owner slots items rest w is.
    let item : Item = (c.args.key, c.args.body.now) in
    let out = c.in_err-push.ensures.out items w.holds (ap (λ (a : TreeAnswer). Err a) (misfit_back c.from_residual.result c.in_err-push.field-0.0 c.from_residual.ensures.1 is)) in
    too_few form.nodesize slots.addresses items rest item (subst (λ (f : Form). IsNodeSize f.nodesize) w.form_is w.holds.standing.nodesize)
    (subst (λ (f : Form). length slots.addresses < leaves_of f.nodesize (items ++ item ∷ [])) w.form_is
    (subst (λ (s : List ℕ). length s < leaves_of c.args.self.now.builder.made.form.nodesize (items ++ item ∷ [])) w.slots_are out))

pub returns-in_err-push-clause-only : goal.returns-in_err-push-clause-only
returns-in_err-push-clause-only g c = λ tells. only_all _ (taken c.push.new.self.made) _ _ _ (c.push.ensures.only tells)

pub returns-clause-writes : goal.returns-clause-writes
returns-clause-writes g c = λ form generation owner slots items w.
    let fits = c.fits.ensures.0 c.if-not-fits.false in
    let item : Item = (c.args.key, c.args.body.now) in
    let here : length item.1 + 126 ≤ form.nodesize = subst (λ (n : ℕ). length item.1 + 126 ≤ n) w.sizes.0 fits.1 in
    let short = short_pushed form.nodesize items item w.short here in
    record {
      holds = c.in_ok-push.ensures.holds items w.holds;
      counted = subst (λ (ls : List ℕ). Counted c.add.new.self ls) (sym (map-append (λ (i : Item). length i.1) items (item ∷ []))) (c.add.ensures.counted (lengths_of items) w.counted);
      last_is = sym (last_pushed items item);
      form_is = c.in_ok-push.ensures.same.form ∙ w.form_is;
      sizes = (w.sizes.0, c.add.ensures.size ∙ w.sizes.1);
      owner_is = c.in_ok-push.ensures.same.owner ∙ w.owner_is;
      generation_is = c.in_ok-push.ensures.same.generation ∙ w.generation_is;
      slots_are = c.in_ok-push.ensures.same.slots ∙ w.slots_are;
      offsets_are = c.in_ok-push.ensures.same.offsets ∙ w.offsets_are;
      few = w.few;
      short = short;
      room = bytes_fit form.nodesize slots.addresses (items ++ item ∷ []) short (subst (λ (f : Form). leaves_of f.nodesize (items ++ item ∷ []) ≤ length slots.addresses) w.form_is
          (subst (λ (s : List ℕ). leaves_of c.args.self.now.builder.made.form.nodesize (items ++ item ∷ []) ≤ length s) w.slots_are (c.in_ok-push.ensures.fits items w.holds)));
      unspent = false_then c.push.new.self.spent c.in_ok-push.ensures.spent.0;
      going = c.in_ok-push.ensures.going;
    }

pub returns-clause-only : goal.returns-clause-only
returns-clause-only g c = λ tells. only_all _ (taken c.push.new.self.made) _ _ _ (c.push.ensures.only tells)
