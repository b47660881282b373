use Rattle.trial_core.proofs.Imports.{◌≡◌, ◌+◌, ◌<◌, ℕ, List, length, map, take, get_or, refl, sym, ◌∙◌, ap, arith, min, sum, take_all, Row, counted, TrialSummary}
use Rattle.std.proofs.lemmas.List.Sums.{sum-map, sum_by_more}
use Rattle.trial_core.proofs.Reading.{got}
use Rattle.trial_core.proofs.summary.summary_of.Goals as goal

abbrev the_summary : ℕ → ℕ → TrialSummary
the_summary rows bytes = record { rows = rows; bytes = bytes }

abbrev bytes_of : List Row → ℕ
bytes_of rows = sum (map counted rows)

more : (rows : List Row) (i : ℕ) (d : Row) → i < length rows → bytes_of (take (i + 1) rows) ≡ bytes_of (take i rows) + counted (get_or rows i d)
more rows i d inside =
    sum-map counted (take (i + 1) rows)
    ∙ (sum_by_more counted rows i d inside ∙ ap (λ (n : ℕ). n + counted (get_or rows i d)) (sym (sum-map counted (take i rows))))

capped : (s x total before after most : ℕ) → total ≡ s + x → before ≡ min s most → after ≡ min (before + x) most → after ≡ min total most
capped s x total before after most all old new = grind (arith, all, old, new)

told : (a b x y : ℕ) → a ≡ b → x ≡ y → the_summary a x ≡ the_summary b y
told a b x y first second = ap (λ (n : ℕ). the_summary n x) first ∙ ap (λ (n : ℕ). the_summary b n) second

pub loop-i-init : goal.loop-i-init
loop-i-init c = refl

pub loop-i-preserved : goal.loop-i-preserved
loop-i-preserved c =
    let rows : List Row = c.args.rows.now in
    let i : ℕ = c.loop-i.i in
    let inside : i < length rows = omega (arith, c.loop-i-test.true, c.len-i-end.ensures) in
    let d : Row = c.get.result.now in
    let here : c.counted.result ≡ counted (get_or rows i d) = c.counted.ensures ∙ ap (λ (r : Row). counted r) (sym (got rows i d d c.get.ensures)) in
    capped (bytes_of (take i rows)) (counted (get_or rows i d)) (bytes_of (take (i + 1) rows)) c.loop-i.bytes c.saturating_add-bytes.result 18446744073709551615 (more rows i d inside) c.loop-i.invariant
    (c.saturating_add-bytes.ensures ∙ ap (λ (n : ℕ). min (c.loop-i.bytes + n) 18446744073709551615) here)

pub returns : goal.returns
returns c =
    let rows : List Row = c.args.rows.now in
    let all : take c.loop-i.i rows ≡ rows = take_all c.loop-i.i rows (omega (arith, c.loop-i-test.false, c.len-i-end.ensures)) in
    let bytes : c.loop-i.bytes ≡ min (bytes_of rows) 18446744073709551615 = c.loop-i.invariant ∙ ap (λ (rs : List Row). min (bytes_of rs) 18446744073709551615) all in
    told c.len.result (length rows) c.loop-i.bytes (min (bytes_of rows) 18446744073709551615) c.len.ensures bytes
