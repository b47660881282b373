use Rattle.super_turn.proofs.Imports.{List, [], ℕ, ◌++◌, ◌∙◌, ap, take, drop, append-nil, codes, little_bytes}
use Rattle.super_turn.proofs.mark.marked.Goals as goal

pub returns-clause-turned : goal.returns-clause-turned
returns-clause-turned c =
    ap (λ (zs : List ℕ). take 128 c.args.block.now.bytes ++ (zs ++ drop 24 (drop 128 c.args.block.now.bytes)))
    (c.put_fields.ensures ∙ ap (λ (zs : List ℕ). codes "reiserconv turns" ++ zs) (append-nil (little_bytes 8 c.args.place)))
