-- The grammar of entries and its test, and where names lie.
use Rattle.reiser_items.proofs.Imports.{ℕ, zero, suc, ◌*◌, ◌≤◌, ◌<◌, List, length, refl, arith, Decides-and, Decides-below_and, Decides-ltb, Decides-not, Decides-like, AreEntries, IsEntry, location, area_end, is_entry, are_entries}
use Rattle.std.specs.Bool.{Decides}
use Rattle.reiser_node.specs.reiserfs_format.declared.size.TheConstants.{DEH_SIZE}
use Rattle.reiser_node.specs.Leaf.{each_below}

pub area_within : (count : ℕ) (body : List ℕ) → AreEntries count body → (i : ℕ) → i ≤ count → area_end body i ≤ length body
area_within count body are zero h = omega arith
area_within count body are (suc i) h = omega (arith, area_within count body are i (omega arith), (are.each i (omega arith)).ordered)

pub heads_within : (count : ℕ) (body : List ℕ) → AreEntries count body → DEH_SIZE * count ≤ length body
heads_within count body are = omega (arith, are.some, (are.each 0 (omega (arith, are.some))).behind, (are.each 0 (omega (arith, are.some))).ordered)

entry_decides : (count : ℕ) (body : List ℕ) (i : ℕ) → Decides (is_entry count body i) (IsEntry count body i)
entry_decides count body i =
    Decides-like (is_entry count body i)
    (λ p. record { behind = omega (arith, p.0); ordered = omega (arith, p.1) })
    (λ entry. ((λ h. omega (arith, h, entry.behind)), (λ h. omega (arith, h, entry.ordered))))
    (Decides-and _ _ (Decides-not _ (Decides-ltb (location body i) (DEH_SIZE * count))) (Decides-not _ (Decides-ltb (area_end body i) (location body i))))

entries_below_decide : (count : ℕ) (body : List ℕ) → (n : ℕ) → Decides (each_below (is_entry count body) n) ((i : ℕ) → i < n → IsEntry count body i)
entries_below_decide count body = Decides-below_and (is_entry count body) (IsEntry count body) (each_below (is_entry count body)) (entry_decides count body) refl (λ _. refl)

pub entries_decide : (count : ℕ) (body : List ℕ) → Decides (are_entries count body) (AreEntries count body)
entries_decide count body =
    Decides-like (are_entries count body) (λ p. record { some = omega (arith, p.0); each = p.1 }) (λ are. (omega (arith, are.some), are.each))
    (Decides-and _ _ (Decides-ltb 0 count) (entries_below_decide count body count))
