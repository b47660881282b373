use Rattle.extent_pieces.proofs.Imports.{◌-◌, ◌%◌, ◌<◌, ◌≤◌, not, refl, arith, ⊎_elim, cases_lt, FIRST_MIRROR, SECOND_MIRROR, IsReserved, is_reserved, end_is}
use Rattle.extent_pieces.proofs.Reserving.{at_last, at_second, at_third, last_order, next_here, next_is}
use Rattle.extent_pieces.proofs.copies.next_reserved.Goals as goal
use Rattle.extent_pieces.proofs.copies.next_reserved.Goals.{then-b-blocks-via-then-b-blocks, then-b-blocks-via-else-b-blocks+then-is_reserved}

pub returns-then-b-blocks : goal.returns-then-b-blocks
returns-then-b-blocks c =
    let n = c.args.blocks in
    end_is (λ b. not (is_reserved b n)) c.args.b n c.args.b (elim c.then-b-blocks.branch [
      | then-b-blocks-via-then-b-blocks w ↦ next_here c.args.b n c.requires (λ h. absurd (omega (arith, w.if-b-blocks.true)))
      | then-b-blocks-via-else-b-blocks+then-is_reserved w ↦ next_here c.args.b n c.requires (λ h. w.is_reserved.ensures.fact.0 w.if-is_reserved.true)
    ])

pub returns-then-b-lt-FIRST_MIRROR : goal.returns-then-b-lt-FIRST_MIRROR
returns-then-b-lt-FIRST_MIRROR c =
    let n = c.args.blocks in
    let b = c.args.b in
    let e = c.min.result in
    let inside : b < n = omega (arith, c.requires, c.if-b-blocks.false) in
    let never : IsReserved b n → ⊥ = λ r. let t = c.is_reserved.ensures.fact.1 r in absurd (cc) in
    end_is (λ b. not (is_reserved b n)) b n e
    (next_is b e n never inside (let low = last_order b n never inside in omega (arith, c.min.ensures, c.if-b-lt-FIRST_MIRROR.true, low)) (omega (arith, c.min.ensures)) (λ h. omega (arith, c.min.ensures)) (λ h. omega (arith, c.min.ensures)) (λ h.
    ⊎_elim
    (λ (less : n - n % 16 < FIRST_MIRROR). at_last e n (omega (arith, c.min.ensures)) h)
    (λ (more : FIRST_MIRROR ≤ n - n % 16). at_second e n (omega (arith, c.min.ensures)))
    (cases_lt (n - n % 16) FIRST_MIRROR)))

pub returns-then-b-lt-SECOND_MIRROR : goal.returns-then-b-lt-SECOND_MIRROR
returns-then-b-lt-SECOND_MIRROR c =
    let n = c.args.blocks in
    let b = c.args.b in
    let e = c.min-then-b-lt-SECOND_MIRROR.result in
    let inside : b < n = omega (arith, c.requires, c.if-b-blocks.false) in
    let never : IsReserved b n → ⊥ = λ r. let t = c.is_reserved.ensures.fact.1 r in absurd (cc) in
    end_is (λ b. not (is_reserved b n)) b n e
    (next_is b e n never inside (let low = last_order b n never inside in omega (arith, c.min-then-b-lt-SECOND_MIRROR.ensures, c.if-b-lt-SECOND_MIRROR.true, low)) (omega (arith, c.min-then-b-lt-SECOND_MIRROR.ensures)) (λ h. omega (arith, c.if-b-lt-FIRST_MIRROR.false)) (λ h. omega (arith, c.min-then-b-lt-SECOND_MIRROR.ensures)) (λ h.
    ⊎_elim
    (λ (less : n - n % 16 < SECOND_MIRROR). at_last e n (omega (arith, c.min-then-b-lt-SECOND_MIRROR.ensures)) h)
    (λ (more : SECOND_MIRROR ≤ n - n % 16). at_third e n (omega (arith, c.min-then-b-lt-SECOND_MIRROR.ensures)))
    (cases_lt (n - n % 16) SECOND_MIRROR)))

pub returns-else-b-lt-SECOND_MIRROR : goal.returns-else-b-lt-SECOND_MIRROR
returns-else-b-lt-SECOND_MIRROR c =
    let n = c.args.blocks in
    let b = c.args.b in
    let e = n - n % 16 in
    let inside : b < n = omega (arith, c.requires, c.if-b-blocks.false) in
    let never : IsReserved b n → ⊥ = λ r. let t = c.is_reserved.ensures.fact.1 r in absurd (cc) in
    end_is (λ b. not (is_reserved b n)) b n e
    (next_is b e n never inside (last_order b n never inside) (omega arith) (λ h. omega (arith, c.if-b-lt-FIRST_MIRROR.false)) (λ h. omega (arith, c.if-b-lt-SECOND_MIRROR.false)) (λ h. at_last e n refl h))
