use Rattle.std.proofs.Common.{◌≡◌, ◌∙◌, ap, map, rules, [], List}
use Rattle.std.specs.declared.alloc.Global.{Global}
use Rattle.std.specs.declared.vec.Vec.{Vec}
use Rattle.j_definitions.specs.Array.{Array}
use Rattle.j_indices.proofs.Chosen.{map_map}
use Rattle.j_select.proofs.Listings.{chosen_all}
use Rattle.j_select.proofs.choosing.lists_chosen.Goals as goal

pub returns : goal.returns
returns g c =
    let items : Vec g.row.T.Denot Global → List g.row.T.Denot = λ v. v.items in
    let none : c.in_ok-chosen.chosen.items ≡ [] = search rules in
    let are : map (map g.T.Listed.atom) (map items c.deref.result.now) ≡ map (λ (a : Array). a.atoms) c.args.contents.now =
    map_map (map g.T.Listed.atom) items c.deref.result.now ∙ ap (map (λ (w : Vec g.row.T.Denot Global). map g.T.Listed.atom w.items)) c.deref.ensures.value ∙ c.in_ok-lists.ensures in
    chosen_all g.T.Listed.kind g.T.Listed.atom (map items c.deref.result.now) c.args.contents.now c.in_ok-chosen.chosen.items c.append_choices.new.out.items none c.in_ok-append_choices.ensures are
