use Rattle.std.proofs.Common.{◌∙◌, ap, length}
use Rattle.std.proofs.lemmas.List.{length-map}
use Rattle.j_definitions.specs.Array.{byte}
use Rattle.j_noun.specs.Viewed.{viewed, kind_viewed}
use Rattle.j_display.proofs.LeafRows.{characters_size}
use Rattle.j_display.proofs.leaves.line_size.Goals as goal

pub returns-in-Bytes : goal.returns-in-Bytes
returns-in-Bytes c =
    λ k h. characters_size c.args.lines c.in-Bytes.field-0.now c.args.count k (ap kind_viewed c.in-Bytes.is) (ap viewed c.in-Bytes.is) (c.requires.whole ∙ ap (λ v. length (viewed v)) c.in-Bytes.is ∙ length-map c.in-Bytes.field-0.now byte) h
