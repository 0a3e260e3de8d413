use Rattle.std.proofs.Common.{List, sym, ap, map, reverse, ◌∙◌, Vec, Global}
use Rattle.j_entity.specs.View.{entity_of}
use Rattle.j_names.specs.Names.{Locals, Scopes, local, held_at, put}
use Rattle.j_names.specs.Kept.{kept, kept_locals, scopes_of}
use Rattle.j_names.specs.declared.names.Local.{Local}
use Rattle.j_names.specs.declared.target.Target.{Target}
use Rattle.j_names.proofs.Levels.{put_levels, none_seen, on_ok}
use Rattle.j_names.proofs.names.Names.put.Goals as goal

pub returns-in-Local-clause-ok : goal.returns-in-Local-clause-ok
returns-in-Local-clause-ok c =
    on_ok c.put_local.result
    (λ e.
    ap (λ (ls : List Locals). let s : Scopes = record { rows = kept c.self.inside.rows.items; locals = ls; current = c.self.inside.current } in s)
    (put_levels (kept_locals c.self.inside.locals.items) (kept_locals c.put_local.new.locals.items) (reverse (map (λ (ls : Vec Local Global). kept_locals ls.items) c.self.inside.outer.items)) c.args.name.now (entity_of c.args.e) e)
    ∙ ap (λ (t : Target). put (scopes_of c.self.inside) t c.args.name.now (entity_of c.args.e)) (sym c.in-Local.is)
    ∙ ap (λ (s : Scopes). put s c.args.target.now c.args.name.now (entity_of c.args.e)) c.self.view_is)
    c.put_local.ensures.ok

pub returns-in-Local-clause-again : goal.returns-in-Local-clause-again
returns-in-Local-clause-again c held =
    c.put_local.ensures.again
    (λ none. held
    (ap (λ (t : Target). held_at c.args.self.now t c.args.name.now) c.in-Local.is
    ∙ ap (λ (s : Scopes). local s c.args.name.now) (sym c.self.view_is)
    ∙ none_seen (kept_locals c.self.inside.locals.items) (reverse (map (λ (ls : Vec Local Global). kept_locals ls.items) c.self.inside.outer.items)) c.args.name.now none))
