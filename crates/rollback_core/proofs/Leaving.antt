-- What a rollback leaves, by what was prepared and written.
use Rattle.rollback_core.proofs.Imports.{◌≡◌, ◌⊎◌, inl, inr, ⊎_elim, subst, History, Image, IsSettled, LeftSince, clock, reads, IsWayBack, IsLeftByRollback, AreWritesApart, IsTurned, IsUnturned, IsHalfway, WayBack}
use Rattle.rollback_core.proofs.Back.{back, standing}
use Rattle.rollback_core.proofs.Halfway.{half_back}

-- each of the three states is one that may be left
pub left_of : (disk : Image) (way : WayBack) → IsWayBack disk way → AreWritesApart way → (other : Image) → IsUnturned way disk other ⊎ (IsHalfway way disk other ⊎ IsTurned way disk other) → IsLeftByRollback disk other
left_of disk way p apart other is =
    ⊎_elim (λ unturned. inr (p.can, inl (standing disk way p apart other unturned)))
    (λ rest. ⊎_elim (λ half. inr (p.can, inr (inl (half_back disk way p apart other half)))) (λ turned. inr (p.can, inr (inr (back disk way p other turned)))) rest) is

-- what a crash leaves while the old volume is written, which began with the disk as it was
pub writing_crash : (h₀ h₁ h₂ : History) (way : WayBack) → h₁ ≡ h₀ → IsWayBack (reads h₀) way → AreWritesApart way → IsSettled h₀
    → (IsSettled h₁ → (other : Image) → LeftSince (clock h₁) h₂ other → IsUnturned way (reads h₁) other ⊎ (IsHalfway way (reads h₁) other ⊎ IsTurned way (reads h₁) other))
    → (other : Image) → LeftSince (clock h₀) h₂ other → IsLeftByRollback (reads h₀) other
writing_crash h₀ h₁ h₂ way same p apart settled each other left =
    let here = subst (λ (h : History). IsSettled h → (x : Image) → LeftSince (clock h) h₂ x → IsUnturned way (reads h) x ⊎ (IsHalfway way (reads h) x ⊎ IsTurned way (reads h) x)) same each in
    left_of (reads h₀) way p apart other (here settled other left)
