-- What is answered of the Btrfs volume, as an answer of a rollback.
use Rattle.rollback_core.proofs.Imports.{◌≡◌, ◌≢◌, inl, inr, List, [], None, Ok, Err, Contains, refl, ap, subst, arith, format_in, Image, of_btrfs, BtrRefusal, LogPending, Btrfs, IsAmong, opening_refusals, super_on, IsReadable, SavedImage, log_of, log_tree, way_refusals, one_log, Super, RefusesUse, has_log, unreadable, RefusesRollback}
use Rattle.reiser_bitmap.specs.refusals.declared.answer.BtrAnswer.{BtrAnswer}
use Rattle.reiser_bitmap.specs.refusals.declared.answer.BtrAnswer.TheVariants.{Refused, Fault, Memory}
use Rattle.btr_reader.proofs.Opens.{super_refused}
use Rattle.convert_steps.specs.command_answers.declared.answer.Answer.TheVariants as answer

-- ---- what is wrong with the volume

-- where it is opened: a superblock that can't be read names no log tree
pub super_refuses : (disk : Image) (r : BtrRefusal) → format_in disk ≡ Btrfs → super_on disk ≡ Err r → RefusesRollback disk (answer.Btr r)
super_refuses disk r format read = (format, unreadable (ap log_of read) (inl (super_refused disk (Refused r) read)))

pub opening_refuses : (disk : Image) (e : BtrAnswer) → format_in disk ≡ Btrfs → log_tree disk ≡ None → IsAmong (opening_refusals disk) e → RefusesRollback disk (of_btrfs e)
opening_refuses disk (Refused r) format none among = (format, unreadable none (inl among))
opening_refuses disk Fault format none among = tt
opening_refuses disk Memory format none among = tt

-- where the blocks in use are looked at
pub use_refuses : (disk : Image) (e : BtrAnswer) → format_in disk ≡ Btrfs → RefusesUse disk e → RefusesRollback disk (of_btrfs e)
use_refuses disk (Refused r) format refused = (format, refused)
use_refuses disk Fault format refused = tt
use_refuses disk Memory format refused = tt

-- on the way to the image
pub way_refuses : (disk : Image) (e : BtrAnswer) → format_in disk ≡ Btrfs → log_tree disk ≡ None → opening_refusals disk ≡ [] → IsAmong (way_refusals disk) e → RefusesRollback disk (of_btrfs e)
way_refuses disk (Refused r) format none opens among = (format, unreadable none (inr (opens, among)))
way_refuses disk Fault format none opens among = tt
way_refuses disk Memory format none opens among = tt

none_of : (refusals : List BtrRefusal) (r : BtrRefusal) → refusals ≡ [] → Contains refusals r → ⊥
none_of refusals r none is =
    let here : Contains [] r = subst (λ (z : List BtrRefusal). Contains z r) none is in
    omega (arith, here.1)

-- that is readable where nothing is wrong
pub way_readable : (disk : Image) → opening_refusals disk ≡ [] → way_refusals disk ≡ [] → IsReadable disk SavedImage
way_readable disk opens way r (inl is) = none_of (opening_refusals disk) r opens is
way_readable disk opens way r (inr is) = none_of (way_refusals disk) r way is.1

-- ---- the log tree

-- a superblock that names one is refused by it
pub log_refuses : (disk : Image) (s : Super) → format_in disk ≡ Btrfs → super_on disk ≡ Ok s → s.log_root ≢ 0 → RefusesRollback disk (answer.Btr (LogPending s.log_root))
log_refuses disk s format read some = (format, has_log s.log_root (one_log disk s read some) refl)
