use Rattle.std.proofs.Common.{ℕ, List, [], subst}
use Rattle.j_display.specs.Shown.{IsShown}
use Rattle.j_display.proofs.Wholes.{characters_whole, characters_many}
use Rattle.j_display.proofs.display.show_characters.Goals as goal

pub show_lines-requires-clause-size : goal.show_lines-requires-clause-size
show_lines-requires-clause-size c = characters_many [] c.args.frame.now c.args.characters.now c.args.columns c.requires.whole

pub returns : goal.returns
returns c =
    let P : List ℕ → Type 0 = λ bytes. IsShown c.show_lines.result bytes c.args.room c.args.into.now.items c.show_lines.new.into.items in
    subst P (characters_whole [] c.args.frame.now c.args.characters.now c.args.columns) c.show_lines.ensures
