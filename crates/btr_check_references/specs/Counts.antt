-- References that are made, counted.
use Rattle.std.specs.Prelude.{◌≡◌, ◌≢◌, ◌⊎◌, ◌<◌, ℕ, ◌+◌, ◌-◌, ◌==◌, Bool, true, false, ◌&&◌, if◌then◌else◌, List, [], ◌∷◌, ◌++◌, length, map, slice_index_or, All, AllPairs}
use Rattle.std.specs.Cmp.Lexicographic.{slice_cmp}
use Rattle.std.specs.List.{count_by, sum_by}
use Rattle.std.specs.Ordering.{nat_cmp}
use Rattle.std.specs.declared.cmp.Ordering.{Ordering}
use Rattle.std.specs.declared.cmp.Ordering.TheVariants.{Less, Greater}
use Rattle.btr_check_rules.specs.btr_reader.btr_space_items.InlineRef.{ref_kind, ref_objectid, ref_offset, ref_parent, ref_root}
use Rattle.btr_check_rules.specs.Extents.{same_ref}
use Rattle.btr_check_rules.specs.References.{Made}
use Rattle.btr_check_references.specs.declared.made.Made.{Made as MadeRef}
use Rattle.btr_check_references.specs.declared.gather.MadeCount.{MadeCount}

abbrev pub made_of : MadeRef → Made
made_of m = record { start = m.start; length = m.length; ref = m.by }

abbrev pub made_in : MadeCount → Made
made_in e = made_of e.made

-- ---- references that are the same

-- two are to the same extent, by the same tree, node, file or leaf
abbrev pub is_same : Made → Made → Bool
is_same a b = (a.start == b.start) && ((a.length == b.length) && same_ref a.ref b.ref)

-- a test that does not tell those apart
abbrev pub IsTestOfRefs : (Made → Bool) → Type 0
IsTestOfRefs test = (a b : Made) → is_same a b ≡ true → test a ≡ test b

-- by which numbers they ascend
abbrev pub ranks_of : Made → List ℕ
ranks_of m = m.start ∷ (m.length ∷ (ref_kind m.ref ∷ (ref_root m.ref ∷ (ref_objectid m.ref ∷ (ref_offset m.ref ∷ (ref_parent m.ref ∷ []))))))

unfoldable pub order_of : Made → Made → Ordering
order_of a b = slice_cmp nat_cmp (ranks_of a) (ranks_of b)

-- ---- counts

-- how often references are made that pass a test
abbrev pub count_if : (Made → Bool) → List MadeCount → ℕ
count_if test entries = sum_by (λ e. if test (made_in e) then e.count else 0) entries

-- Entries are the counts of references: of any kind as many are counted as there are, and no entry is without one.
pub record AreCountsOf (made : List Made) (entries : List MadeCount) : Type 0 where
  pub counts : (test : Made → Bool) → IsTestOfRefs test → count_if test entries ≡ count_by test made
  pub some : All (λ e. e.count ≢ 0) entries

-- they count the same
pub record CountsAs (before after : List MadeCount) : Type 0 where
  pub counts : (test : Made → Bool) → IsTestOfRefs test → count_if test after ≡ count_if test before
  pub some : All (λ e. e.count ≢ 0) before → All (λ e. e.count ≢ 0) after

-- ---- order

-- they ascend, and the same may stand twice
pub record AreOrdered (entries : List MadeCount) : Type 0 where
  pub ascend : AllPairs (λ a b. order_of (made_in a) (made_in b) ≢ Greater) entries

-- they ascend, each once
pub record AreJoined (entries : List MadeCount) : Type 0 where
  pub ascend : AllPairs (λ a b. order_of a b ≡ Less) (map made_in entries)

abbrev pub counted : MadeCount → ℕ → MadeCount
counted e more = record { made = e.made; count = e.count + more }

-- some entries with one behind them, which is added to the last where that is the same
abbrev pub IsJoinedWith : List MadeCount → MadeCount → List MadeCount → Type 0
IsJoinedWith done e next =
    (((d : MadeCount) → 0 < length done → is_same (made_in (slice_index_or done (length done - 1) d)) (made_in e) ≡ false) × (next ≡ done ++ e ∷ []))
    ⊎ ((front : List MadeCount) × (last : MadeCount) × (done ≡ front ++ last ∷ []) × (is_same (made_in last) (made_in e) ≡ true) × (next ≡ front ++ counted last e.count ∷ []))
