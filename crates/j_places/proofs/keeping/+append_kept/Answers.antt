use Rattle.std.proofs.Common.{◌≡◌, ◌<◌, ◌≤◌, ◌/◌, arith, rules, length, Some, None}
use Rattle.std.specs.List.{All}
use Rattle.j_definitions.specs.Array.{product}
use Rattle.j_places.specs.Axes.{IsAxis, extents, item_kept, places_of}
use Rattle.j_places.proofs.KeptSteps.{first_axis, rest_axes, kept_count, inner_extent, inner_extent_some, inner_count, inner_count_some, inner_count_few, inner_axes, item_fits, item_many, place_more, item_more, fills_more}
use Rattle.j_places.proofs.keeping.+append_kept.Goals as goal

pub part-own-requires : goal.part-own-requires
part-own-requires g t c =
    item_fits c.args.axes.now c.args.unit c.loop-k.k c.places-places.result c.in-Some.item c.args.all.now c.in-len1-up.len_at_least c.requires.are c.requires.many c.requires.some c.places-places.ensures c.loop-k-test.true c.in-Some.ensures

pub append_kept-requires : goal.append_kept-requires
append_kept-requires g t c =
    let are : All IsAxis (rest_axes c.args.axes.now) = inner_axes c.args.axes.now c.requires.are in
    let many : length c.part-own.result.now ≡ product (extents (rest_axes c.args.axes.now) c.args.unit) =
    item_many c.args.axes.now c.args.unit c.loop-k.k c.places-places.result c.in-Some.item c.args.all.now c.part-own.result.now c.in-len1-up.len_at_least c.requires.are c.requires.many c.requires.some c.places-places.ensures c.loop-k-test.true
    c.in-Some.ensures c.part-own.ensures in
    let extent : 0 < product (extents (rest_axes c.args.axes.now) c.args.unit) = inner_extent_some c.args.axes.now c.args.unit c.args.all.now c.in-len1-up.len_at_least c.requires.many c.requires.some in
    let some : 0 < length c.part-own.result.now = omega arith in
    let size : c.args.size / c.places-places.result ≡ kept_count (rest_axes c.args.axes.now) c.args.unit =
    inner_count c.args.axes.now c.args.unit c.args.size c.places-places.result c.in-len1-up.len_at_least c.requires.size c.requires.result c.places-places.ensures in
    let result : 0 < c.args.size / c.places-places.result =
    inner_count_some c.args.axes.now c.args.unit c.args.size c.places-places.result c.in-len1-up.len_at_least c.requires.size c.requires.result c.places-places.ensures in
    let few : c.args.size / c.places-places.result ≤ 4194304 =
    inner_count_few c.args.axes.now c.args.unit c.args.size c.places-places.result 4194304 c.in-len1-up.len_at_least c.requires.size c.requires.result c.requires.few c.places-places.ensures in
    search (rules, are, many, some, size, result, few)

pub loop-k-preserved-in_default-place : goal.loop-k-preserved-in_default-place
loop-k-preserved-in_default-place g t c =
    let size = inner_count c.args.axes.now c.args.unit c.args.size c.places-places.result c.in-len1-up.len_at_least c.requires.size c.requires.result c.places-places.ensures in
    let within : c.loop-k.k < length (places_of (first_axis c.args.axes.now)) = omega (arith, c.loop-k-test.true, c.places-places.ensures) in
    place_more (item_kept c.args.fill.now (rest_axes c.args.axes.now) c.args.unit c.args.all.now) (places_of (first_axis c.args.axes.now)) None c.loop-k.k c.args.out.now.items c.loop-k.out.items c.append_fills.new.out.items within
    c.in_default-place.ensures c.loop-k.invariant
    (fills_more c.args.fill.now (rest_axes c.args.axes.now) c.args.unit (c.args.size / c.places-places.result) c.args.all.now c.loop-k.out.items c.append_fills.new.out.items size c.in_ok-append_fills.ensures)

pub loop-k-preserved : goal.loop-k-preserved
loop-k-preserved g t c =
    let extent = inner_extent c.args.axes.now c.args.unit c.args.all.now c.in-len1-up.len_at_least c.requires.many c.requires.some in
    let within : c.loop-k.k < length (places_of (first_axis c.args.axes.now)) = omega (arith, c.loop-k-test.true, c.places-places.ensures) in
    place_more (item_kept c.args.fill.now (rest_axes c.args.axes.now) c.args.unit c.args.all.now) (places_of (first_axis c.args.axes.now)) (Some c.in-Some.item) c.loop-k.k c.args.out.now.items c.loop-k.out.items c.append_kept.new.out.items within
    c.in-Some.ensures c.loop-k.invariant
    (item_more c.args.fill.now (rest_axes c.args.axes.now) c.args.unit _ c.in-Some.item c.args.all.now c.part-own.result.now c.loop-k.out.items c.append_kept.new.out.items extent c.part-own.ensures c.in_ok-append_kept.ensures)
