use Rattle.std.proofs.Common.{◌≡◌, ℕ, ◌<◌, ap, ◌∙◌, subst, Vec, Global}
use Rattle.std.specs.Vec.{vec_len}
use Rattle.j_names.specs.Names.{Scopes, local_target}
use Rattle.j_names.specs.Kept.{kept_locals}
use Rattle.j_names.specs.declared.names.Local.{Local}
use Rattle.j_names.proofs.Levels.{local_aimed, top_aimed, some_length, no_length}
use Rattle.j_names.proofs.names.Names.local_target.Goals as goal

pub returns-else-is_empty : goal.returns-else-is_empty
returns-else-is_empty c =
    local_aimed (λ (ls : Vec Local Global). kept_locals ls.items) (kept_locals c.self.inside.locals.items) c.self.inside.outer.items
    (subst (λ (n : ℕ). 0 < n) c.self.inside.outer.ok.0 (some_length (vec_len c.self.inside.outer) c.is_empty.result c.is_empty.ensures c.if-is_empty.false))
    ∙ ap (λ (s : Scopes). local_target s.locals) c.self.view_is

pub returns-then-is_empty : goal.returns-then-is_empty
returns-then-is_empty c =
    top_aimed (λ (ls : Vec Local Global). kept_locals ls.items) (kept_locals c.self.inside.locals.items) c.self.inside.outer.items
    (subst (λ (n : ℕ). n ≡ 0) c.self.inside.outer.ok.0 (no_length (vec_len c.self.inside.outer) c.is_empty.result c.is_empty.ensures c.if-is_empty.true))
    ∙ ap (λ (s : Scopes). local_target s.locals) c.self.view_is
