-- Verbs on the pieces of a noun.
use Rattle.std.specs.Prelude.{ℕ, zero, suc, ℤ, pos, negsuc, nat_le, List, [], ◌∷◌, length, map, Option, Some, None, Result, Ok, Err, if◌then◌else◌}
use Rattle.j_definitions.specs.Array.{Array, Atom, number, byte, nested}
use Rattle.j_definitions.specs.declared.Fault.{Fault}
use Rattle.j_definitions.specs.declared.Fault.TheVariants.{Limit, Rank}
use Rattle.j_entity.specs.Tree.{OperandTree, verb, noun, rank_list}
use Rattle.j_search.specs.declared.cut.CutForm.{CutForm}
use Rattle.j_search.specs.declared.cut.CutForm.TheVariants.{Begin, BeginDrop, End, EndDrop}
use Rattle.j_scans.specs.Pieced.{Pieced}
use Rattle.j_scans.specs.Scans.{prefixes, suffixes, infixes, outfixes}
use Rattle.j_cuts_key.specs.Obliques.{obliques}
use Rattle.j_cuts_key.specs.Keys.{keyed}
use Rattle.j_cuts_key.specs.Cuts.{cuts, cuts_by}
use Rattle.j_verbs.specs.ByRank.{Doing, Source, by_source}
use Rattle.j_verbs.specs.State.{Run, ◌>>=◌, fail, or_fault}
use Rattle.j_eval.specs.Operands.{Operand, unformed}

-- Pieces as cells: each alone, in a frame of as many as there are. A noun without items stands for a piece where there is none.
abbrev pub source_of_pieces : Pieced → Source
source_of_pieces p = record { frame = length p.pieces ∷ []; pairs = map (λ a. (None, a)) p.pieces; fills = Ok (None, p.no_items) }

-- most pieces that a verb is applied to
abbrev pub most_pieces : ℕ
most_pieces = 4194304

-- a verb on each of some cells, where there aren't too many
abbrev pub on_source : Doing → Source → Run Array
on_source f c = if nat_le (length c.pairs) most_pieces then by_source f c else fail Limit

-- a verb on each piece in order
abbrev pub on_pieces : Doing → Pieced → Run Array
on_pieces f p = on_source f (source_of_pieces p)

-- what is made with an argument of at most so many axes, as the ranks of the verb give it
abbrev pub within_rank : ℕ → List ℕ → Result Pieced Fault → Result Pieced Fault
within_rank r s made = if nat_le (length s) r then made else Err Rank

-- prefixes, or infixes of as many items as the left argument says
abbrev pub prefix_pieces : Option Array → Array → Result Pieced Fault
prefix_pieces None y = Ok (prefixes y)
prefix_pieces (Some x) y = within_rank 0 x.shape (infixes x y)

-- suffixes, or outfixes
abbrev pub suffix_pieces : Option Array → Array → Result Pieced Fault
suffix_pieces None y = Ok (suffixes y)
suffix_pieces (Some x) y = within_rank 0 x.shape (outfixes x y)

-- `u\`: u on each prefix, or on each infix
abbrev pub prefix : Operand → Doing
prefix u x y = or_fault (prefix_pieces x y) >>= on_pieces u.does

-- `u\.`: u on each suffix, or on each outfix
abbrev pub suffix : Operand → Doing
suffix u x y = or_fault (suffix_pieces x y) >>= on_pieces u.does

-- oblique lines, or the items of each key
abbrev pub oblique_pieces : Option Array → Array → Result Pieced Fault
oblique_pieces None y = Ok (obliques y)
oblique_pieces (Some x) y = keyed x y

-- `u/.`: u on each oblique line, or on the items of each key
abbrev pub oblique : Operand → Doing
oblique u x y = or_fault (oblique_pieces x y) >>= on_pieces u.does

-- the cut that a number says: a fret begins or ends a piece, and is dropped where the number is negative
abbrev pub form_of : ℤ → Option CutForm
form_of (pos zero) = None
form_of (pos (suc zero)) = Some Begin
form_of (pos (suc (suc zero))) = Some End
form_of (pos (suc (suc (suc n)))) = None
form_of (negsuc zero) = Some BeginDrop
form_of (negsuc (suc zero)) = Some EndDrop
form_of (negsuc (suc (suc n))) = None

abbrev pub form_said : List Atom → Option CutForm
form_said [] = None
form_said (number z ∷ atoms) = form_of z
form_said (byte b ∷ atoms) = None
form_said (nested k s r ∷ atoms) = None

abbrev pub operand_form : OperandTree → Option CutForm
operand_form (noun n) = form_said n.atoms
operand_form (verb v) = None
operand_form (rank_list l) = None

-- pieces between frets that match an item, or that are marked
abbrev pub cut_pieces : CutForm → Option Array → Array → Result Pieced Fault
cut_pieces form None y = Ok (cuts form y)
cut_pieces form (Some x) y = within_rank 1 x.shape (cuts_by form x y)

abbrev pub cut_as : Option CutForm → Doing → Doing
cut_as None f x y = unformed x y
cut_as (Some form) f x y = or_fault (cut_pieces form x y) >>= on_pieces f

-- `u;.n`
abbrev pub cut : Operand → Operand → Doing
cut u v x y = cut_as (operand_form v.tree) u.does x y
