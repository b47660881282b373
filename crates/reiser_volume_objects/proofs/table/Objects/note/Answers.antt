use Rattle.reiser_volume_objects.proofs.Imports.{◌∙◌, ap, subst, Some, option_or, Updates, same_key, object_key_of, items_of}
use Rattle.reiser_volume_objects.proofs.Tables.{noted_push, leaves_noted}
use Rattle.reiser_volume_objects.proofs.table.Objects.note.Goals as goal

pub returns : goal.returns
returns c = λ items noted behind.
    noted_push c.args.self.now _ items (record { leaf = c.args.leaf; head = c.args.head.now; body = c.args.body.now }) c.object_at.result noted behind
    (c.object_at.ensures.summary (items_of (object_key_of c.args.head.now) items) (noted.each (object_key_of c.args.head.now)))
    (subst (λ v. Updates same_key c.args.self.now.map c.insert.new.self (object_key_of c.args.head.now) (Some v)) c.with-object.ensures (c.in_ok-insert.ensures.updates))
    (c.in_ok-note_entries.ensures)
    (c.or-self.ensures ∙ ap (option_or c.args.self.now.save_link) (c.save_link_in.ensures c.args.leaf c.args.body.now))
    (leaves_noted items (record { leaf = c.args.leaf; head = c.args.head.now; body = c.args.body.now }) c.args.self.now.leaves _ noted.leaves c.in_ok-place.ensures.leaves)
    c.in_ok-place.place c.in_ok-place.ensures.last c.object_at.ensures.first
