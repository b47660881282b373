use Rattle.extent_pieces.proofs.Imports.{◌≡◌, ◌<◌, ◌-◌, Bool, List, true, not, length, sym, arith, subst, ℕ, not_from_false, is_reserved, has, end_of_run, next_unused, IsEnd, end_facts, end_is, advanced, is_joined, is_owner}
use Rattle.extent_pieces.proofs.Dividing.{data_inside}
use Rattle.extent_pieces.proofs.Ending.{data_unreserved, data_used, end_above, end_of, kept_end_is}
use Rattle.extent_pieces.proofs.divide.kept_end.Goals as goal

pub owner_end-requires : goal.owner_end-requires
owner_end-requires c =
    let b = c.args.b in
    let used = c.args.map.now in
    let inside : b < length used = data_inside used b c.requires.data in
    let facts : IsEnd (λ k. not (is_reserved k c.len.result)) b c.len.result (end_of_run (λ k. not (is_reserved k c.len.result)) b c.len.result) = end_facts (λ k. not (is_reserved k c.len.result)) b c.len.result (omega (arith, c.len.ensures)) in
    let above = end_above (λ k. not (is_reserved k c.len.result)) b c.len.result _ facts (omega (arith, c.len.ensures)) (subst (λ (n : ℕ). not (is_reserved b n) ≡ true) (sym c.len.ensures) (not_from_false (is_reserved b (length used)) (data_unreserved used b c.requires.data))) in
    omega (arith, above, c.next_reserved.ensures, c.min-end.ensures, c.saturating_mul-cut.ensures, inside, c.len.ensures)

pub next_unused-requires-clause-inside : goal.next_unused-requires-clause-inside
next_unused-requires-clause-inside c =
    let n = c.len.result in
    let inside : c.args.b < length c.args.map.now = data_inside c.args.map.now c.args.b c.requires.data in
    let facts = end_of (λ k. not (is_reserved k n)) c.args.b n c.next_reserved.result c.next_reserved.ensures (omega (arith, c.len.ensures)) in
    omega (arith, facts.high, c.owner_end.ensures.bound, c.min-end.ensures, c.len.ensures)

-- where the used blocks end
used_to : (used : List Bool) (b o e : ℕ) → b < o → e ≡ next_unused used b o → IsEnd (has used) b o e
used_to used b o e order is = end_of (has used) b o e is (omega arith)

pub returns-clause-some : goal.returns-clause-some
returns-clause-some c =
    let facts = used_to c.args.map.now c.args.b c.owner_end.result c.next_unused.result c.owner_end.ensures.some c.next_unused.ensures in
    end_above (has c.args.map.now) c.args.b c.owner_end.result c.next_unused.result facts c.owner_end.ensures.some (data_used c.args.map.now c.args.b c.requires.data)

pub returns-clause-inside : goal.returns-clause-inside
returns-clause-inside c =
    let n = c.len.result in
    let inside : c.args.b < length c.args.map.now = data_inside c.args.map.now c.args.b c.requires.data in
    let facts = end_of (λ k. not (is_reserved k n)) c.args.b n c.next_reserved.result c.next_reserved.ensures (omega (arith, c.len.ensures)) in
    let to = used_to c.args.map.now c.args.b c.owner_end.result c.next_unused.result c.owner_end.ensures.some c.next_unused.ensures in
    omega (arith, facts.high, c.owner_end.ensures.bound, c.min-end.ensures, c.len.ensures, to.high)

pub returns-clause-exact : goal.returns-clause-exact
returns-clause-exact c = λ owner tells.
    let n = c.len.result in
    let b = c.args.b in
    let used = c.args.map.now in
    let inside : b < length used = data_inside used b c.requires.data in
    let facts = end_of (λ k. not (is_reserved k n)) b n c.next_reserved.result c.next_reserved.ensures (omega (arith, c.len.ensures)) in
    let to = used_to used b c.owner_end.result c.next_unused.result c.owner_end.ensures.some c.next_unused.ensures in
    let owned = end_of (λ k. is_owner (owner k) (advanced (owner b) (k - b))) b c.min-end.result c.owner_end.result (c.owner_end.ensures.end owner tells) (omega (arith, c.owner_end.ensures.some, c.owner_end.ensures.bound)) in
    end_is (is_joined used owner b) b (length used) c.next_unused.result
    (kept_end_is used owner b n c.saturating_mul-cut.result c.next_reserved.result c.min-end.result c.owner_end.result c.next_unused.result c.len.ensures (omega (arith, c.len.type_inv)) c.saturating_mul-cut.ensures c.min-end.ensures facts owned to)
