-- A plan makes chunks of a volume.
use Rattle.space_items.proofs.Imports.{◌≡◌, ⊎_elim, ◌⊎◌, inl, inr, ℕ, zero, suc, ◌+◌, ◌-◌, ◌*◌, ◌%◌, ◌<◌, ◌&&◌, ltb, not, Bool, true, false, List, [], ◌∷◌, ◌++◌, Option, Some, None, refl, ap, subst, arith, MatchOption, and_parts, ltb-true, cases_eq, PlannedChunk, Role, Plan, AreChunks, AreChunksBy, role_by, role_of, has_role, usable_end, is_in_runs}
use Rattle.unit_plan.specs.declared.chunk.Role.TheVariants.{System, Metadata, Data}
use Rattle.unit_plan.specs.Choice.{is_among}
use Rattle.unit_plan.specs.Dividing.{IsJoined, AreBegun, IsWithChunk, chunk_from}
use Rattle.unit_plan.proofs.Dividing.{begun, goes_on, ended, divided}

same_role : (r s : Role) → (r ≡ s) ⊎ (r ≡ s → ⊥)
same_role System System = inl refl
same_role System Metadata = inr (λ e. cc)
same_role System Data = inr (λ e. cc)
same_role Metadata System = inr (λ e. cc)
same_role Metadata Metadata = inl refl
same_role Metadata Data = inr (λ e. cc)
same_role Data System = inr (λ e. cc)
same_role Data Metadata = inr (λ e. cc)
same_role Data Data = inl refl

same_use : (a b : Option Role) → (a ≡ b) ⊎ (a ≡ b → ⊥)
same_use None None = inl refl
same_use None (Some s) = inr (λ e. cc)
same_use (Some r) None = inr (λ e. cc)
same_use (Some r) (Some s) = ⊎_elim (λ (e : r ≡ s). inl (ap Some e)) (λ (no_e : r ≡ s → ⊥). inr (λ e. let f : r ≡ s = cc in no_e f)) (same_role r s)

module _ (role : ℕ → Option Role) (usable : ℕ) (inside : (u : ℕ) (r : Role) → role u ≡ Some r → 256 * u < usable) where
  joined_or_not : (u : ℕ) → IsJoined role u ⊎ (IsJoined role u → ⊥)
  joined_or_not u =
      ⊎_elim (λ (cut : u % 1024 ≡ 0). inr (λ (j : IsJoined role u). j.uncut cut))
      (λ (uncut : u % 1024 ≡ 0 → ⊥).
      ⊎_elim (λ (none : role (u - 1) ≡ None). inr (λ (j : IsJoined role u). j.some none))
      (λ (some : role (u - 1) ≡ None → ⊥).
      ⊎_elim (λ (same : role (u - 1) ≡ role u). inl (record { uncut = uncut; some = some; same = same }))
      (λ (other : role (u - 1) ≡ role u → ⊥). inr (λ (j : IsJoined role u). other j.same))
      (same_use (role (u - 1)) (role u)))
      (same_use (role (u - 1)) None))
      (cases_eq (u % 1024) 0)

  -- the chunks that are found below a unit
  record HasBegun (u : ℕ) : Type 0 where
    first : ℕ
    chunks : List PlannedChunk
    are : AreBegun role usable first u chunks

  with_chunk : (old : List PlannedChunk) (o : Option Role) (first end : ℕ) → (new : List PlannedChunk) × IsWithChunk old o first end usable new
  with_chunk old None first end = (old, refl)
  with_chunk old (Some r) first end = (old ++ chunk_from usable first end r ∷ [], refl)

  begins_at : (n : ℕ) → HasBegun (n + 1)
  begins_at zero = record { first = 0; chunks = []; are = begun role usable inside [] refl }
  begins_at (suc n) =
      let known : HasBegun (n + 1) = begins_at n in
      let step : n + 1 + 1 ≡ suc n + 1 = omega arith in
      ⊎_elim
      (λ (joined : IsJoined role (n + 1)). record { first = known.first; chunks = known.chunks; are = subst (λ (u : ℕ). AreBegun role usable known.first u known.chunks) step (goes_on role usable inside known.first (n + 1) known.chunks known.are joined) })
      (λ (ends : IsJoined role (n + 1) → ⊥).
      let new = with_chunk known.chunks (role known.first) known.first (n + 1) in
      record { first = n + 1; chunks = new.0; are = subst (λ (u : ℕ). AreBegun role usable (n + 1) u new.0) step (ended role usable inside known.first (n + 1) known.chunks known.are ends new.0 new.1) })
      (joined_or_not (n + 1))

  pub chunks_by : (chunks : List PlannedChunk) × AreChunksBy role usable chunks
  chunks_by =
      let known : HasBegun (usable + 1) = begins_at usable in
      (known.chunks, divided role usable inside known.first (usable + 1) usable known.chunks known.are refl (omega arith))

used : (r : Role) (b s m : Bool) → role_by b s m ≡ Some r → b ≡ true
used r true s m e = refl
used r false s m e = absurd (subst (λ (o : Option Role). MatchOption o (Unit {0}) (λ _. ⊥)) e tt)

role_inside : (plan : Plan) (blocks u : ℕ) (r : Role) → role_of plan blocks u ≡ Some r → 256 * u < usable_end blocks
unfolding role_of has_role
role_inside plan blocks u r e =
    let t = used r (ltb 0 u && (ltb (256 * u) (usable_end blocks) && not (is_in_runs plan.unallocated u))) (is_among plan.system u) (is_among plan.metadata u) e in
    ltb-true (256 * u) (usable_end blocks) (and_parts (ltb (256 * u) (usable_end blocks)) _ (and_parts (ltb 0 u) _ t).1).0

pub chunks_exist : (plan : Plan) (blocks : ℕ) → (chunks : List PlannedChunk) × AreChunks plan blocks chunks
chunks_exist plan blocks = chunks_by (role_of plan blocks) (usable_end blocks) (role_inside plan blocks)

-- the chunks that the plan makes
pub the_chunks : Plan → ℕ → List PlannedChunk
the_chunks plan blocks = (chunks_exist plan blocks).0

pub are_the_chunks : (plan : Plan) (blocks : ℕ) → AreChunks plan blocks (the_chunks plan blocks)
unfolding the_chunks
are_the_chunks plan blocks = (chunks_exist plan blocks).1
