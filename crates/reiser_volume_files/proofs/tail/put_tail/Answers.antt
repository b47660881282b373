use Rattle.reiser_volume_files.proofs.Imports.{◌≡◌, ◌-◌, ◌∙◌, ℕ, List, [], ◌∷◌, ◌++◌, min, take, length, refl, sym, ap, subst, arith, ◌⊎◌, take_min, ItemHead, Stat, Indirect, Directory, Overlays, direct_content}
use Rattle.reiser_volume_files.proofs.Tails.{tail_overlays, other_tail, none_by_kind}
use Rattle.reiser_volume_files.proofs.tail.put_tail.Goals as goal

pub returns-in-Direct : goal.returns-in-Direct
returns-in-Direct c = λ given i head body may old.
    let from = c.first_byte-at.ensures ∙ sym (ap (λ (h : ItemHead). h.offset - 1) head) in
    let many : c.count_below-count.result ≡ min (c.args.size - c.first_byte-at.result) (length c.args.body.now) = omega (arith, c.count_below-count.ensures) in
    let piece : take c.count_below-count.result c.args.body.now ≡ take (c.args.size - c.first_byte-at.result) c.args.body.now =
    ap (λ (n : ℕ). take n c.args.body.now) many ∙ take_min (c.args.size - c.first_byte-at.result) c.args.body.now in
    let over = tail_overlays given i c.args.size (ap (λ (h : ItemHead). h.kind) head ∙ c.in-Direct.is) may in
    let there = subst (λ (b : List ℕ). Overlays (i.head.offset - 1) (take (c.args.size - (i.head.offset - 1)) b) (direct_content given c.args.size) (direct_content (given ++ i ∷ []) c.args.size)) body over in
    let here = subst (λ (a : ℕ). Overlays a (take (c.args.size - a) c.args.body.now) (direct_content given c.args.size) (direct_content (given ++ i ∷ []) c.args.size)) (sym from) there in
    c.copy_piece.ensures _ _ c.args.k refl (subst (λ (b : List ℕ). Overlays c.first_byte-at.result b (direct_content given c.args.size) (direct_content (given ++ i ∷ []) c.args.size)) (sym piece) here) old

pub returns-in-Stat : goal.returns-in-Stat
returns-in-Stat c = λ given i head body may old.
    old ∙ other_tail given i c.args.size c.args.k (λ n. none_by_kind i n (subst (λ (h : ItemHead). (h.kind ≡ Stat) ⊎ ((h.kind ≡ Indirect) ⊎ (h.kind ≡ Directory))) (sym head) c.in-Stat.is))
