-- The verbs on nouns that are words: what each of them gives of one noun, or of two.
use Rattle.std.specs.Prelude.{ℕ, nat_le, cond, length, Result, Err, pos}
use Rattle.j_definitions.specs.Array.{Array, atom_array, number}
use Rattle.j_definitions.specs.declared.Fault.{Fault}
use Rattle.j_definitions.specs.declared.Fault.TheVariants.{Rank}
use Rattle.j_definitions.specs.declared.Kind.TheVariants.{Number}
use Rattle.j_places.specs.ItemPlaces as items
use Rattle.j_places.specs.AxisPlaces as places
use Rattle.j_reshaping.specs.Reshaping as reshaping
use Rattle.j_reshaping.specs.Axes as axes
use Rattle.j_joining.specs.Joining as joining
use Rattle.j_joining.specs.Stitching as stitching
use Rattle.j_indices.specs.Counting as counting
use Rattle.j_indices.specs.Selecting as selecting
use Rattle.j_indices.specs.Indexing as indexing
use Rattle.j_select.specs.Catalogue as catalogue
use Rattle.j_search.specs.Matching as matching
use Rattle.j_search.specs.Order as order
use Rattle.j_search.specs.declared.order.Direction.TheVariants.{Up, Down}
use Rattle.j_insert.specs.Bases as bases
use Rattle.j_insert.specs.Digits as digits
use Rattle.j_display.specs.Formatted as display
use Rattle.j_verbs.specs.WordForms as forms
use Rattle.j_verbs.specs.declared.calls.Monad.{Monad}
use Rattle.j_verbs.specs.declared.calls.Monad.TheVariants as monad
use Rattle.j_verbs.specs.declared.calls.Dyad.{Dyad}
use Rattle.j_verbs.specs.declared.calls.Dyad.TheVariants as dyad

abbrev pub two : Array
two = atom_array Number (number (pos 2))

-- a cell of at most n axes, as its verb's rank makes it; one of more would be `rank error`
abbrev pub up_to : ℕ → Array → Result Array Fault → Result Array Fault
up_to n a r = cond (nat_le (length a.shape) n) r (Err Rank)

abbrev pub of_one : Monad → Array → Result Array Fault
of_one monad.ShapeOf y = items.shape_of y
of_one monad.TallyOf y = items.tally_of y
of_one monad.Ravel y = items.ravel y
of_one monad.RavelItems y = items.ravel_items y
of_one monad.Itemize y = items.itemize y
of_one monad.Reverse y = items.reversed y
of_one monad.Transpose y = axes.transpose y
of_one monad.Head y = items.head y
of_one monad.Tail y = items.tail y
of_one monad.Behead y = items.beheaded y
of_one monad.Curtail y = items.curtailed y
of_one monad.Integers y = up_to 1 y (counting.integers y)
of_one monad.StepsAround y = up_to 0 y (counting.steps_around y)
of_one monad.IndicesOfOnes y = up_to 1 y (counting.indices_of_ones y)
of_one monad.Nub y = matching.nub y
of_one monad.NubSieve y = matching.nub_sieve y
of_one monad.SelfClassify y = matching.self_classify y
of_one monad.GradeUp y = order.grade Up y
of_one monad.GradeDown y = order.grade Down y
of_one monad.BaseTwo y = bases.base two y
of_one monad.AntibaseTwo y = digits.antibase_two y
of_one monad.Boxed y = joining.in_box y
of_one monad.Opened y = up_to 0 y (joining.content y)
of_one monad.Raze y = joining.raze y
of_one monad.Catalogue y = catalogue.catalogue y
of_one monad.WordForms y = forms.word_forms y
of_one monad.Format y = display.formatted y

abbrev pub of_two : Dyad → Array → Array → Result Array Fault
of_two dyad.Reshape x y = up_to 1 x (reshaping.reshape x y)
of_two dyad.Append x y = joining.append x y
of_two dyad.Stitch x y = stitching.stitch x y
of_two dyad.Laminate x y = joining.laminate x y
of_two dyad.Rotate x y = up_to 1 x (places.rotate_axes x y)
of_two dyad.TransposeBy x y = up_to 1 x (axes.transpose_by x y)
of_two dyad.Take x y = up_to 1 x (places.take_axes x y)
of_two dyad.DropItems x y = up_to 1 x (places.drop_axes x y)
of_two dyad.Copy x y = up_to 1 x (selecting.copy x y)
of_two dyad.From x y = up_to 0 x (indexing.from x y)
of_two dyad.IndexOf x y = matching.index_of x y
of_two dyad.LastIndexOf x y = matching.last_index_of x y
of_two dyad.Member x y = matching.member x y
of_two dyad.Less x y = matching.less x y
of_two dyad.Match x y = matching.match_of x y
of_two dyad.SortUp x y = order.sort Up x y
of_two dyad.SortDown x y = order.sort Down x y
of_two dyad.Base x y = bases.base x y
of_two dyad.Antibase x y = digits.antibase x y
of_two dyad.Link x y = joining.link x y
