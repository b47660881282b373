use Rattle.reiser_volume_names.proofs.Imports.{◌≡◌, ℕ, ◌+◌, ◌∙◌, length, ap, List, arith, extref_hash, ino_of_key, capped}
use Rattle.reiser_volume_names.proofs.Extending.{joined_at, crowded_at}
use Rattle.reiser_volume_names.proofs.extended.extend.Goals as goal

pub returns-then-sum-gt3900 : goal.returns-then-sum-gt3900
returns-then-sum-gt3900 c = λ ns counts.
    let hash : c.extref_hash-hash.result ≡ extref_hash (ino_of_key c.args.named.now.keys c.args.naming.now.dir) c.args.naming.now.name =
    c.extref_hash-hash.ensures ∙ (ap (λ (l : List ℕ). extref_hash c.inode_of.result l) c.bytes-name.ensures ∙ ap (λ (i : ℕ). extref_hash i c.args.naming.now.name) c.inode_of.ensures) in
    crowded_at c.args.named.now.keys c.args.sums.now c.add.new.sums ns c.args.naming.now c.extref_hash-hash.result c.size_with.result c.in_ok-sum.sum counts hash (c.size_with.ensures ∙ ap (λ (l : List ℕ). capped (length l + 18)) c.bytes-name.ensures) c.in_ok-sum.ensures.sum
    (omega (arith, c.if-sum-gt3900.true))

pub returns : goal.returns
returns c = λ ns counts.
    let hash : c.extref_hash-hash.result ≡ extref_hash (ino_of_key c.args.named.now.keys c.args.naming.now.dir) c.args.naming.now.name =
    c.extref_hash-hash.ensures ∙ (ap (λ (l : List ℕ). extref_hash c.inode_of.result l) c.bytes-name.ensures ∙ ap (λ (i : ℕ). extref_hash i c.args.naming.now.name) c.inode_of.ensures) in
    joined_at c.args.named.now.keys c.args.sums.now c.add.new.sums ns c.args.naming.now c.extref_hash-hash.result c.size_with.result c.in_ok-sum.sum counts hash (c.size_with.ensures ∙ ap (λ (l : List ℕ). capped (length l + 18)) c.bytes-name.ensures) c.in_ok-sum.ensures.sum
    c.in_ok-sum.ensures.sums c.if-sum-gt3900.false
