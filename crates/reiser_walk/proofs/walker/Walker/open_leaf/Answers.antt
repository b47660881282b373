use Rattle.reiser_walk.proofs.Imports.{◌≡◌, false, Contains, refl, sym, ◌∙◌, ap, subst, arith, block_at, count, is_leaf, heads_within, node_damage, level_of}
use Rattle.reiser_walk.proofs.Walking.{leaf_put, leaf_off}
use Rattle.reiser_walk.proofs.walker.Walker.open_leaf.Goals as goal

pub returns-in_default-clause-opens : goal.returns-in_default-clause-opens
returns-in_default-clause-opens c = λ image used given p at number bytes.
    let off : is_leaf c.args.self.now.leaf.block.bytes ≡ false = grind arith in
    subst (Contains (node_damage (level_of c.args.self.now) p.block (block_at image p.block))) (sym c.off_grammar.ensures.refusal)
    (leaf_off (level_of c.args.self.now) c.args.self.now.leaf.no p.block c.args.self.now.leaf.block.bytes (block_at image p.block) c.requires.level number bytes off)

pub returns-clause-small : goal.returns-clause-small
returns-clause-small c =
    let left : c.count-left.result ≡ count c.args.self.now.leaf.block.bytes = c.count-left.ensures ∙ ap count c.in-Some.ensures.value in
    omega (arith, left, heads_within c.args.self.now.leaf.block.bytes (c.in-Some.ensures.grammar.0 refl))

pub returns-clause-opens : goal.returns-clause-opens
returns-clause-opens c = λ image used given p at number bytes.
    leaf_put c.args.self.now _ image used given p at refl refl refl refl c.requires.level
    (sym (ap is_leaf bytes) ∙ sym c.in-Some.ensures.test) number bytes refl (c.count-left.ensures ∙ (ap count c.in-Some.ensures.value ∙ ap count bytes))
