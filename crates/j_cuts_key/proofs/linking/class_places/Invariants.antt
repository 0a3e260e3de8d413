use Rattle.std.proofs.Common.{◌-◌, length}
use Rattle.j_cuts_key.proofs.Linked.{IsWalked}
use Rattle.j_cuts_key.proofs.linking.class_places.Given as goal

abbrev pub invariant-loop-place : goal.invariant-loop-place
invariant-loop-place l = IsWalked l.links.classes.items l.class l.places.items l.place

abbrev pub decreases-loop-place : goal.decreases-loop-place
decreases-loop-place l = length l.links.next.items - l.place
