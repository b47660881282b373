-- Reserved blocks come in groups of sixteen, each of which is reserved from its begin on.
use Rattle.btr_check_items.proofs.Imports.{true, ◌≡◌, ℕ, zero, suc, false, List, [], ◌∷◌, Option, Some, None, ◌+◌, ◌-◌, ◌<◌, ◌≤◌, ◌⊎◌, inl, inr, Bool, refl, sym, subst, ⊎_elim, arith, not_from_Decides, Decides-like, cases_lt, Decides, ◌*◌, ◌/◌}
use Rattle.btr_check_rules.specs.btr_reader.btr_space_items.declared.stripe.Stripe.{Stripe}
use Rattle.btr_check_rules.specs.btr_reader.vol_block.Volume.{IsReserved}
use Rattle.btr_check_rules.specs.Groups.{second_of}
use Rattle.btr_check_items.specs.Reserved.{CopyTouches, HasReserved, TouchesReserved}
use Rattle.btr_check_items.proofs.Deciding.{never}

-- where a block of a group is reserved, each one before it in the group is
pub first_of_group : (b c blocks : ℕ) → b ≤ c → c < (b / 16 + 1) * 16 → IsReserved c blocks → IsReserved b blocks
first_of_group b c blocks low near (inl early) = inl (omega (arith, low, early))
first_of_group b c blocks low near (inr (inl first)) = inr (inl (omega (arith, near, first.0), omega (arith, low, first.1)))
first_of_group b c blocks low near (inr (inr (inl second))) = inr (inr (inl (omega (arith, near, second.0), omega (arith, low, second.1))))
first_of_group b c blocks low near (inr (inr (inr tail))) = inr (inr (inr (omega (arith, near, tail.0), omega (arith, low, tail.1))))

-- no block before one is reserved
abbrev pub NoneBefore : ℕ → ℕ → ℕ → Type 0
NoneBefore first end blocks = (k : ℕ) → first ≤ k → k < end → ¬ IsReserved k blocks

pub none_in_group : (first block blocks : ℕ) → NoneBefore first block blocks → ¬ IsReserved block blocks → NoneBefore first ((block / 16 + 1) * 16) blocks
none_in_group first block blocks none not_so k low high is =
    ⊎_elim (λ (before : k < block). none k low before is) (λ (behind : block ≤ k). not_so (first_of_group block k blocks behind high is)) (cases_lt k block)

-- the blocks of a range of bytes
pub decides_touched : (b : Bool) (start length blocks : ℕ) → 1 ≤ length → Decides b (HasReserved (start / 4096) ((start + length - 1) / 4096) blocks) → Decides b (TouchesReserved start length blocks)
decides_touched b start length blocks some decides = Decides-like b to from decides
  where
    at : (block p : ℕ) → p / 4096 ≡ block → IsReserved block blocks → IsReserved (p / 4096) blocks
    at block p same is = subst (λ (n : ℕ). IsReserved n blocks) (sym same) is

    to : HasReserved (start / 4096) ((start + length - 1) / 4096) blocks → TouchesReserved start length blocks
    to (block, low, high, is) =
        ⊎_elim
        (λ (inside : block * 4096 < start). (start, omega arith, omega (arith, some), at block start (omega (arith, low, inside)) is))
        (λ (behind : start ≤ block * 4096). (block * 4096, behind, omega (arith, high, some), at block (block * 4096) (omega arith) is))
        (cases_lt (block * 4096) start)

    from : TouchesReserved start length blocks → HasReserved (start / 4096) ((start + length - 1) / 4096) blocks
    from (p, low, high, is) = (p / 4096, omega (arith, low), omega (arith, high), is)

-- ---- the stripes of a chunk

none_touches : (behind length blocks : ℕ) → ¬ CopyTouches [] behind length blocks
none_touches behind length blocks (s, (k, low, at), touches) = omega (arith, low)

first_or_other : (first : Stripe) (others : List Stripe) (behind length blocks : ℕ) → CopyTouches (first ∷ others) behind length blocks → TouchesReserved (first.offset + behind) length blocks ⊎ CopyTouches others behind length blocks
first_or_other first others behind length blocks (s, (zero, low, at), touches) = inl (subst (λ (x : Stripe). TouchesReserved (x.offset + behind) length blocks) (sym at) touches)
first_or_other first others behind length blocks (s, (suc k, low, at), touches) = inr (s, (k, omega (arith, low), at), touches)

of_stripes : (first : Stripe) (others : List Stripe) (behind length blocks : ℕ) → TouchesReserved (first.offset + behind) length blocks ⊎ CopyTouches others behind length blocks → CopyTouches (first ∷ others) behind length blocks
of_stripes first others behind length blocks (inl touches) = (first, (zero, omega arith, refl), touches)
of_stripes first others behind length blocks (inr (s, (k, low, at), touches)) = (s, (suc k, omega (arith, low), at), touches)

pub first_touches : (b : Bool) (first : Stripe) (others : List Stripe) (behind length blocks : ℕ) → Decides b (TouchesReserved (first.offset + behind) length blocks) → b ≡ true → Decides b (CopyTouches (first ∷ others) behind length blocks)
first_touches b first others behind length blocks one is = ((λ is_so. of_stripes first others behind length blocks (inl (one.0 is))), (λ some. is))

pub others_touch : (b c : Bool) (first : Stripe) (others : List Stripe) (behind length blocks : ℕ) → Decides b (TouchesReserved (first.offset + behind) length blocks) → b ≡ false → Decides c (CopyTouches others behind length blocks)
    → Decides c (CopyTouches (first ∷ others) behind length blocks)
others_touch b c first others behind length blocks one not_so two =
    Decides-like c (λ some. of_stripes first others behind length blocks (inr some))
    (λ some. ⊎_elim (λ (touches : TouchesReserved (first.offset + behind) length blocks). absurd (not_from_Decides b one not_so touches)) (λ (other : CopyTouches others behind length blocks). other) (first_or_other first others behind length blocks some)) two

decides_second : (b : Bool) (s : Stripe) (behind length blocks : ℕ) → Decides b (TouchesReserved (s.offset + behind) length blocks) → Decides b (CopyTouches (s ∷ []) behind length blocks)
decides_second b s behind length blocks one =
    Decides-like b (λ touches. of_stripes s [] behind length blocks (inl touches)) (λ some. ⊎_elim (λ (touches : TouchesReserved (s.offset + behind) length blocks). touches) (λ (none : CopyTouches [] behind length blocks). absurd (none_touches behind length blocks none)) (first_or_other s [] behind length blocks some)) one

no_second : (behind length blocks : ℕ) → Decides false (CopyTouches [] behind length blocks)
no_second behind length blocks = never (none_touches behind length blocks)

pub some_second : (b : Bool) (o : Option Stripe) (s : Stripe) (behind length blocks : ℕ) → o ≡ Some s → Decides b (TouchesReserved (s.offset + behind) length blocks) → Decides b (CopyTouches (second_of o) behind length blocks)
some_second b o s behind length blocks is one = subst (λ (x : Option Stripe). Decides b (CopyTouches (second_of x) behind length blocks)) (sym is) (decides_second b s behind length blocks one)

pub without_second : (o : Option Stripe) (behind length blocks : ℕ) → o ≡ None → Decides false (CopyTouches (second_of o) behind length blocks)
without_second o behind length blocks is = subst (λ (x : Option Stripe). Decides false (CopyTouches (second_of x) behind length blocks)) (sym is) (no_second behind length blocks)
