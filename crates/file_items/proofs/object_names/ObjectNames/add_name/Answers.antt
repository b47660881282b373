use Rattle.file_items.proofs.Imports.{◌≡◌, ◌<◌, ◌++◌, ◌∷◌, [], ◌∙◌, Bool, List, ℕ, true, false, length, ap, sym, refl, if◌then◌else◌, arith, append-nil, on_ok_weaker, extref_bytes, inode_ref_bytes, Key, keys, ObjectKey, Naming, links_in, ref_record, far_record}
use Rattle.file_items.proofs.Linked.{entry_at}
use Rattle.file_items.proofs.Named.{name_short, index_is, flag_is}
use Rattle.file_items.proofs.Referring.{far_added, ref_added}
use Rattle.file_items.proofs.object_names.ObjectNames.add_name.Goals as goal

pub returns-in_ok-put_extref : goal.returns-in_ok-put_extref
returns-in_ok-put_extref c = λ image known e there.
    let all : List ObjectKey = keys c.args.volume.now.named in
    let links : List Naming = links_in c.args.volume.now in
    let own = entry_at [] links c.args.number e there in
    let ends = c.link-link.ensures.ends image known.opened e.link own.link in
    let flag : e.extended ≡ true = sym (flag_is links c.args.links.now.extended.items c.args.number e c.is_extended.result known.index_is.extended there c.is_extended.ensures) ∙ c.if-is_extended.true in
    let long : length c.link-link.result.name.now < 65536 = omega (arith, ap length (c.link-link.ensures.name e.link own.link), name_short c.args.volume.now image c.args.number e.link known.accepted known.opened own.link) in
    let name = c.short-name.ensures.same long ∙ c.link-link.ensures.name e.link own.link in
    on_ok_weaker c.add.result (λ new_is. record {
      refs = sym (ap (λ (b : Bool). c.args.self.now.refs ++ (if b then [] else ref_record all c.args.ino e ∷ [])) flag ∙ append-nil c.args.self.now.refs);
      far =
          far_added all e c.args.self.now.far c.add.new.self c.inode-parent.result c.index_in-index.result c.extref_hash-hash.result c.short-name.result.now c.deref.result.now (c.inode-parent.ensures all e.link.dir known.numbers_are ends.0)
          (index_is c.args.volume.now c.args.links.now c.args.numbers image known c.link-link.result.dir e.link.dir ends.0 c.args.number e c.index_in-index.result there refl c.index_in-index.ensures) name
          (c.deref.ensures.value ∙ (c.in_ok-put_extref.ensures ∙ ap (λ (l : List ℕ). l ++ extref_bytes (record { parent = c.inode-parent.result; index = c.index_in-index.result; name = c.short-name.result.now })) c.clear.ensures.items))
          c.extref_hash-hash.ensures (new_is ∙ ap (λ (k : Key). c.args.self.now.far ++ (k, c.deref.result.now) ∷ []) c.key_of.ensures)
          ∙ sym (ap (λ (b : Bool). c.args.self.now.far ++ (if b then far_record all e ∷ [] else [])) flag);
    }) c.add.ensures.ok

pub returns-in_ok-put_inode_ref : goal.returns-in_ok-put_inode_ref
returns-in_ok-put_inode_ref c = λ image known e there.
    let all : List ObjectKey = keys c.args.volume.now.named in
    let links : List Naming = links_in c.args.volume.now in
    let own = entry_at [] links c.args.number e there in
    let ends = c.link-link.ensures.ends image known.opened e.link own.link in
    let flag : e.extended ≡ false = sym (flag_is links c.args.links.now.extended.items c.args.number e c.is_extended.result known.index_is.extended there c.is_extended.ensures) ∙ c.if-is_extended.false in
    let long : length c.link-link.result.name.now < 65536 = omega (arith, ap length (c.link-link.ensures.name e.link own.link), name_short c.args.volume.now image c.args.number e.link known.accepted known.opened own.link) in
    let name = c.short-name.ensures.same long ∙ c.link-link.ensures.name e.link own.link in
    on_ok_weaker c.add-else-is_extended.result (λ new_is. record {
      refs =
          ref_added all e c.args.self.now.refs c.add-else-is_extended.new.self c.args.ino c.inode-parent.result c.index_in-index.result c.short-name.result.now c.deref-else-is_extended.result.now (c.inode-parent.ensures all e.link.dir known.numbers_are ends.0)
          (index_is c.args.volume.now c.args.links.now c.args.numbers image known c.link-link.result.dir e.link.dir ends.0 c.args.number e c.index_in-index.result there refl c.index_in-index.ensures) name
          (c.deref-else-is_extended.ensures.value ∙ (c.in_ok-put_inode_ref.ensures ∙ ap (λ (l : List ℕ). l ++ inode_ref_bytes (record { index = c.index_in-index.result; name = c.short-name.result.now })) c.clear.ensures.items))
          (new_is ∙ ap (λ (k : Key). c.args.self.now.refs ++ (k, c.deref-else-is_extended.result.now) ∷ []) c.key_of-else-is_extended.ensures)
          ∙ sym (ap (λ (b : Bool). c.args.self.now.refs ++ (if b then [] else ref_record all c.args.ino e ∷ [])) flag);
      far = sym (ap (λ (b : Bool). c.args.self.now.far ++ (if b then far_record all e ∷ [] else [])) flag ∙ append-nil c.args.self.now.far);
    }) c.add-else-is_extended.ensures.ok
