-- Results that are passed on.
use Rattle.reiser_volume_names.proofs.Imports.{◌≡◌, ◌≤◌, List, Some, None, Result, Ok, Err, true, sym, subst, ◌∙◌, MatchResult, OnOk, IfOk, IfErr, ReiserItem, ObjectKey, ObjectStat, items_of, Summarises, some_same, HasForms, is_symlink_mode}
use Rattle.reiser_volume_objects.specs.declared.object.Object.{Object}

pub passed_on : {T E : Type 0} (P Q : T → Type 0) (R S : E → Type 0) (r : Result T E) → MatchResult r P R → ((x : T) → P x → Q x) → ((e : E) → R e → S e) → MatchResult r Q S
passed_on P Q R S (Ok x) h f g = f x h
passed_on P Q R S (Err e) h f g = g e h

pub forms_of : (items : List ReiserItem) (key : ObjectKey) (o : Object) (stat : ObjectStat) → Summarises o (items_of key items) → o.off_form ≡ None → o.stat ≡ Some stat → (is_symlink_mode stat.fields.mode ≡ true → stat.fields.size ≤ 3900) → HasForms items key
forms_of items key o stat s none there short = record {
  forms = s.formed none;
  target = λ other has symlink. let same : stat ≡ other = some_same _ stat other (sym s.stat ∙ there) has in
      subst (λ (t : ObjectStat). is_symlink_mode t.fields.mode ≡ true → t.fields.size ≤ 3900) same short symlink;
}

pub both_ways : {T E : Type 0} (P Q : Type 0) (R S : E → Type 0) (r : Result T E) → OnOk r P → IfErr r R → (P → Q) → ((e : E) → R e → S e) → MatchResult r (λ _. Q) S
both_ways P Q R S (Ok x) h k f g = f h
both_ways P Q R S (Err e) h k f g = g e k

pub if_err_to : {T E : Type 0} (r : Result T E) (R S : E → Type 0) → ((e : E) → R e → S e) → IfErr r R → IfErr r S
if_err_to (Ok x) R S f h = h
if_err_to (Err e) R S f h = f e h

pub match_ok : {T E : Type 0} (P Q : T → Type 0) (R : E → Type 0) (r : Result T E) → MatchResult r P R → ((x : T) → P x → Q x) → IfOk r Q
match_ok P Q R (Ok x) h f = f x h
match_ok P Q R (Err e) h f = tt

pub match_err : {T E : Type 0} (P : T → Type 0) (R : E → Type 0) (r : Result T E) → MatchResult r P R → IfErr r R
match_err P R (Ok x) h = tt
match_err P R (Err e) h = h
