use Rattle.reiser_walk.proofs.Imports.{◌≡◌, ℕ, false, List, sym, ◌∙◌, ap, arith, ItemHead, head_at, head_place, body_at, is_body, is_above}
use Rattle.reiser_walk.proofs.Damages.{order_in, body_in}
use Rattle.reiser_walk.proofs.walker.Walker.check_item.Goals as goal

pub returns-then-not-is_above-clause-damage : goal.returns-then-not-is_above-clause-damage
returns-then-not-is_above-clause-damage c =
    let l = c.args.self.now.leaf in
    let head : ItemHead = c.head-head.result in
    let below : is_above c.args.self.now.last head ≡ false = grind arith in
    (head, ap (λ (bytes : List ℕ). head_at bytes (head_place l.at.next)) (sym c.of-leaf.ensures) ∙ c.head-head.ensures, order_in (is_above c.args.self.now.last head) (is_body head (body_at l.block.bytes l.at.next)) l.no below)

pub returns-then-not-is_body-clause-damage : goal.returns-then-not-is_body-clause-damage
returns-then-not-is_body-clause-damage c =
    let l = c.args.self.now.leaf in
    let head : ItemHead = c.head-head.result in
    let body : c.body.result.now ≡ body_at l.block.bytes l.at.next = c.body.ensures ∙ ap (λ (b : List ℕ). body_at b l.at.next) c.of-leaf.ensures in
    let here : is_body head c.body.result.now ≡ false = grind arith in
    let off : is_body head (body_at l.block.bytes l.at.next) ≡ false = sym (ap (is_body head) body) ∙ here in
    (head, ap (λ (bytes : List ℕ). head_at bytes (head_place l.at.next)) (sym c.of-leaf.ensures) ∙ c.head-head.ensures, body_in (is_above c.args.self.now.last head) (is_body head (body_at l.block.bytes l.at.next)) l.no off)
