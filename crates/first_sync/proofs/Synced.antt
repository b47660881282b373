-- What a command that begins with a sync leaves, from what the rest of it leaves.
use Rattle.std.proofs.Common.{◌≡◌, ◌⊎◌, inl, inr, ⊎_elim, ℕ, ◌+◌, List, [], ◌∷◌, ◌++◌, length, drop, Result, refl, sym, ◌∙◌, ap, subst, arith, length-append}
use Rattle.std.proofs.lemmas.List.{drop-drop, drop_at}
use Rattle.std.proofs.lemmas.Bool.{cases_lt}
use Rattle.outside.specs.History.{Call, History, Image, IsSettled, LeftSince, MayLeave, Syncs, WritesOnly, clock, reads, synced}
use Rattle.outside.proofs.Crash.{settled_left, sync_only, writes_none, writes_then, writes_weaker}
use Rattle.first_sync.specs.Laws.{FirstSyncParts}
use Rattle.first_sync.specs.Synced.{CrashesSynced, GoesOn, SyncsFirst, synced_now}

-- ---- what goes on

pub goes_on : (P : ℕ → List ℕ → Type 0) (old new : History) → WritesOnly P old new → GoesOn old new
goes_on P old new only = writes_weaker P (λ b bytes. Unit {0}) (λ b bytes is. tt) old new only

pub stays_on : (old new : History) → new ≡ old → GoesOn old new
stays_on old new same = subst (GoesOn old) (sym same) (writes_none (λ b bytes. Unit {0}) old)

pub then_goes_on : (a b c : History) → GoesOn a b → GoesOn b c → GoesOn a c
then_goes_on a b c first second = writes_then (λ b bytes. Unit {0}) a b c first second

sync_goes_on : (old : History) → GoesOn old (synced_now old)
sync_goes_on old = record { more = synced ∷ []; is = refl; each = tt }

-- a sync, whether it succeeded or not
pub synced_on : {T E : Type 0} (old new : History) (result : Result T E) → Syncs old result new → GoesOn old new
synced_on old new result did = sync_only (λ b bytes. Unit {0}) old new result did

-- a command that begins with a sync goes on, too
pub first_goes_on : (old new : History) → SyncsFirst old new → GoesOn old new
first_goes_on old new (inl same) = stays_on old new same
first_goes_on old new (inr rest) = then_goes_on old (synced_now old) new (sync_goes_on old) rest

-- ---- where nothing was called

-- no moment comes behind the last one
no_later : (old new : History) → new ≡ old → (image : Image) → LeftSince (clock (synced_now old)) new image → ⊥
no_later old new same image left =
    let late : clock new ≡ clock old = ap clock same in
    omega (arith, left.1, late)

pub uncalled : (old new : History) (says : Image → Type 0) → new ≡ old → CrashesSynced old new says
uncalled old new says same = record { first = inl same; since = λ image left. absurd (no_later old new same image left) }

-- ---- where the sync succeeded

-- from the sync on the disk was settled, and what is said is said of what it read as before
pub synced_then : (says : Image → Image → Type 0) (old mid new : History) → mid ≡ synced_now old → GoesOn mid new
    → (IsSettled mid → (image : Image) → LeftSince (clock mid) new image → says (reads mid) image) → CrashesSynced old new (says (reads old))
synced_then says old mid new is more each = record {
  first = inr (subst (λ (h : History). GoesOn h new) is more);
  since = subst (λ (h : History). IsSettled h → (image : Image) → LeftSince (clock h) new image → says (reads h) image) is each (λ b bytes waits. waits);
}

-- what was called first, where nothing is said of a crash
pub synced_first : (old mid new : History) → mid ≡ synced_now old → GoesOn mid new → SyncsFirst old new
synced_first old mid new is more = inr (subst (λ (h : History). GoesOn h new) is more)

-- what is said implies something else
pub turned : (P Q : Image → Type 0) (old new : History) → ((image : Image) → P image → Q image) → CrashesSynced old new P → CrashesSynced old new Q
turned P Q old new turn crashes = record { first = crashes.first; since = λ image left. turn image (crashes.since image left) }

-- nothing waits behind a sync that succeeded
pub synced_settled : (old new : History) → new ≡ synced_now old → IsSettled new
synced_settled old new is = subst IsSettled (sym is) (λ b bytes waits. waits)

-- ---- the parts

now_may : (old : History) (image : Image) → LeftSince (clock old) old image → MayLeave old.start old.calls image
now_may old image left =
    let k : ℕ = left.0 in
    let none : k ≡ 0 = omega (arith, left.1) in
    subst (λ (n : ℕ). MayLeave old.start (drop n old.calls) image) none left.2

parts : (old new : History) → SyncsFirst old new → (image : Image) → LeftSince (clock old) new image → MayLeave old.start old.calls image ⊎ LeftSince (clock (synced_now old)) new image
parts old new (inl same) image left = inl (now_may old image (subst (λ (h : History). LeftSince (clock old) h image) same left))
parts old new (inr goes) image left =
    let m : ℕ = length goes.more in
    let then : LeftSince (clock old) (record { start = old.start; calls = goes.more ++ synced ∷ old.calls }) image = subst (λ (h : History). LeftSince (clock old) h image) goes.is left in
    let sizes : length (goes.more ++ synced ∷ old.calls) ≡ m + length (synced ∷ old.calls) = length-append goes.more (synced ∷ old.calls) in
    let back : drop m (goes.more ++ synced ∷ old.calls) ≡ synced ∷ old.calls = drop_at goes.more (synced ∷ old.calls) m refl in
    elim (cases_lt m then.0) [
      | inl before ↦
          let one : then.0 ≡ m + 1 = omega (arith, before, then.1, sizes) in
          let same : drop then.0 (goes.more ++ synced ∷ old.calls) ≡ old.calls =
          ap (λ (i : ℕ). drop i (goes.more ++ synced ∷ old.calls)) one ∙ sym (drop-drop 1 m (goes.more ++ synced ∷ old.calls)) ∙ ap (λ (calls : List Call). drop 1 calls) back in
          inl (subst (λ (calls : List Call). MayLeave old.start calls image) same then.2)
      | inr since ↦ inr (subst (λ (h : History). LeftSince (clock (synced_now old)) h image) (sym goes.is) (then.0, omega (arith, then.1, sizes, since), then.2))
    ]

pub first_parts : FirstSyncParts
first_parts = record {
  any = parts;
  settled = λ old new first settled image left. ⊎_elim (λ may. inl (settled_left old settled image (0, omega arith, may))) (λ since. inr since) (parts old new first image left);
}
