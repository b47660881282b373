use Rattle.reiser_walk.proofs.Imports.{◌≡◌, ◌≢◌, ℕ, true, false, Contains, refl, sym, ◌∙◌, ap, subst, arith, block_at, pointer_count, is_inner, node_damage, level_of}
use Rattle.reiser_walk.proofs.Walking.{inner_put, inner_off}
use Rattle.reiser_walk.proofs.walker.Walker.open_inner.Goals as goal

pub returns-in_default-clause-opens : goal.returns-in_default-clause-opens
returns-in_default-clause-opens c = λ image used given p at number bytes.
    let off : is_inner c.args.level c.args.self.now.leaf.block.bytes ≡ false = grind arith in
    subst (Contains (node_damage (level_of c.args.self.now) p.block (block_at image p.block))) (sym c.off_grammar.ensures.refusal)
    (inner_off (level_of c.args.self.now) c.args.level c.args.self.now.leaf.no p.block c.args.self.now.leaf.block.bytes (block_at image p.block) c.requires.level c.requires.inner number bytes off)

pub returns-clause-opens : goal.returns-clause-opens
returns-clause-opens c = λ image used given p at number bytes.
    let other : level_of c.args.self.now ≢ 1 = λ one. c.requires.inner (sym c.requires.level ∙ one) in
    let grammar : is_inner (level_of c.args.self.now) (block_at image p.block) ≡ true =
    ap (λ (level : ℕ). is_inner level (block_at image p.block)) c.requires.level ∙ (sym (ap (is_inner c.args.level) bytes) ∙ sym c.in-Some.ensures.test) in
    inner_put c.args.self.now _ image used given p _ at refl refl refl refl refl c.push_reserved.ensures.items c.requires.done other grammar number bytes refl (c.count-left.ensures ∙ (ap pointer_count c.in-Some.ensures.value ∙ ap pointer_count bytes))
