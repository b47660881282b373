-- One more item of a walk is noted.
use Rattle.reiser_volume_objects.proofs.Imports.{◌≡◌, ℕ, Bool, List, [], ◌∷◌, ◌++◌, None, Option, Some, IfSome, sym, ap, subst, ◌∙◌, Image, VolAnswer, Refused, Fault, Memory, ReiserTree, ReiserItem, order_damages, Walks, Objects, BlamesTree, HasNoted, IsBehind}
use Rattle.reiser_items.specs.reiser_node.declared.head.ItemHead.{ItemHead}
use Rattle.reiser_walk.specs.declared.walker.Walker.{Walker}
use Rattle.reiser_walk.specs.Answers.{BlamesDamage}
use Rattle.reiser_volume_objects.proofs.Ordered.{behind_given}

-- the parts of the item that stands make it up
stands_as : (o : Option ReiserItem) (i : ReiserItem) (leaf : ℕ) (head : ItemHead) (body : List ℕ) → o ≡ Some i → IfSome o (λ x. leaf ≡ x.leaf) → IfSome o (λ x. head ≡ x.head) → IfSome o (λ x. body ≡ x.body) → record { leaf = leaf; head = head; body = body } ≡ i
stands_as o i leaf head body is l h b =
    let leaf_is : leaf ≡ i.leaf = rw is at l in
    let head_is : head ≡ i.head = rw is at h in
    let body_is : body ≡ i.body = rw is at b in
    λ j. record { leaf = leaf_is j; head = head_is j; body = body_is j }

pub noted_next : (w : Walker) (image : Image) (used : List Bool) (given : List ReiserItem) (i : ReiserItem) (o : Option ReiserItem) (leaf : ℕ) (head : ItemHead) (body : List ℕ) (t u : Objects)
    → Walks w image used (given ++ i ∷ []) → o ≡ Some i → IfSome o (λ x. leaf ≡ x.leaf) → IfSome o (λ x. head ≡ x.head) → IfSome o (λ x. body ≡ x.body)
    → HasNoted t given
    → ((items : List ReiserItem) → HasNoted t items → IsBehind items (record { leaf = leaf; head = head; body = body }) → HasNoted u (items ++ record { leaf = leaf; head = head; body = body } ∷ []))
    → HasNoted u (given ++ i ∷ [])
noted_next w image used given i o leaf head body t u walks is l h b noted note =
    let same = stands_as o i leaf head body is l h b in
    let behind = behind_given given i (sym (ap (order_damages None) walks.items) ∙ walks.sound.order) in
    subst (λ (x : ReiserItem). HasNoted u (given ++ x ∷ [])) same (note given noted (subst (IsBehind given) (sym same) behind))

pub blames_tree : (tree : ReiserTree) (image : Image) (used : List Bool) (e : VolAnswer) → BlamesDamage tree image used e → BlamesTree tree image used e
blames_tree tree image used (Refused refusal) h = h
blames_tree tree image used Fault h = tt
blames_tree tree image used Memory h = tt
