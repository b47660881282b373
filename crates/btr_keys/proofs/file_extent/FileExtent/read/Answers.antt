use Rattle.btr_keys.proofs.Imports.{◌≡◌, ◌∙◌, ℕ, Bool, cond, None, Option, drop, ap, sym, get_or-drop, slice_index_or, le-ltb, take_rest, option_map, file_extent_head, file_extent_value, file_extent_of, make_file_extent, content_of}
use Rattle.btr_keys.proofs.file_extent.FileExtent.read.Goals as goal

pub returns : goal.returns
unfolding file_extent_head
returns c =
    let body = c.args.body.now in
    let behind = drop 21 body in
    let made = make_file_extent c.u64_at.result c.u64_at-2.result (slice_index_or body 16 0) (slice_index_or body 17 0) c.u16_at.result in
    let read : made (slice_index_or body 20 0) behind ≡ file_extent_head.read body behind = λ i.
    make_file_extent (c.u64_at.ensures i) (c.u64_at-2.ensures i) (sym (get_or-drop 16 body 0 0) i) (sym (get_or-drop 17 body 0 0) i) (c.u16_at.ensures i) (sym (get_or-drop 20 body 0 0) i) behind in
    let long : file_extent_of body ≡ file_extent_head.read body behind = ap (λ (b : Bool). cond b None (file_extent_head.read body behind)) (le-ltb _ _ c.if-body-lt21.false) in
    ap
    (option_map (λ content. record { generation = c.u64_at.result; ram_bytes = c.u64_at-2.result; compression = slice_index_or body 16 0; encryption = slice_index_or body 17 0; other = c.u16_at.result; content = content }))
    c.in_ok-content.ensures
    ∙ ap (made (slice_index_or body 20 0)) (take_rest body 21) ∙ read ∙ sym long

none_mapped : {A B : Type 0} (f : A → B) (o : Option A) → o ≡ None → option_map f o ≡ None
none_mapped f o e = ap (option_map f) e

pub returns-in_err-content : goal.returns-in_err-content
unfolding file_extent_head
returns-in_err-content c =
    let body = c.args.body.now in
    let behind = drop 21 body in
    let none : content_of (slice_index_or (drop 20 body) 0 0) behind ≡ None =
    ap (λ (k : ℕ). content_of k behind) (get_or-drop 20 body 0 0) ∙ ap (content_of (slice_index_or body 20 0)) (sym (take_rest body 21)) ∙ sym c.in_err-content.ensures in
    let read : file_extent_head.read body behind ≡ None = none_mapped _ _ none in
    let long : file_extent_of body ≡ file_extent_head.read body behind = ap (λ (b : Bool). cond b None (file_extent_head.read body behind)) (le-ltb _ _ c.if-body-lt21.false) in
    ap (option_map file_extent_value) c.from_residual.ensures ∙ sym read ∙ sym long
