use Rattle.std.proofs.Common.{ℕ, ◌<◌, List, ap, ◌∙◌, subst, Vec, Global}
use Rattle.std.specs.FinMap as finite
use Rattle.std.specs.Vec.{vec_len}
use Rattle.j_names.specs.Names.{Scopes, local}
use Rattle.j_names.specs.Kept.{kept_locals}
use Rattle.j_names.specs.declared.names.Local.{Local}
use Rattle.j_names.proofs.Levels.{local_seen, some_length}
use Rattle.j_names.proofs.names.Names.local.Goals as goal

pub returns-else-is_empty : goal.returns-else-is_empty
returns-else-is_empty c =
    c.local_value.ensures
    ∙ ap (λ (ls : List Local). finite.get (kept_locals ls) c.args.name.now) c.deref.ensures.value
    ∙ local_seen (λ (ls : Vec Local Global). kept_locals ls.items) (kept_locals c.self.inside.locals.items) c.self.inside.outer.items c.args.name.now
    (subst (λ (n : ℕ). 0 < n) c.self.inside.outer.ok.0 (some_length (vec_len c.self.inside.outer) c.is_empty.result c.is_empty.ensures c.if-is_empty.false))
    ∙ ap (λ (s : Scopes). local s c.args.name.now) c.self.view_is
