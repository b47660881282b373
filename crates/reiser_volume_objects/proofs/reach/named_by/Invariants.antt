use Rattle.reiser_volume_objects.proofs.Imports.{◌≡◌, List, true, take, Contains, contains, same_node, ReiserItem, Naming, same_key, root, AreSeen, Closes, TellsReached, IsDirectory, HasNoted}
use Rattle.reiser_volume_objects.proofs.reach.named_by.Given as goal

abbrev pub invariant-loop-i : goal.invariant-loop-i
invariant-loop-i l = record {
  root_in : contains same_key l.named root ≡ true;
  closed : (n : Naming) → Contains (take l.i l.objects.namings.items) n → Closes (contains same_node l.nodes) (contains same_key l.named) n;
  seen : (items : List ReiserItem) → HasNoted l.objects items → IsDirectory items root → TellsReached items (contains same_node l.nodes) → AreSeen items (contains same_key l.named);
}
