use Rattle.std.specs.Option.{option_copied}
use Rattle.j_verbs.proofs.Answers.{one_gives, two_gives, left_gives, right_gives, constant_gives, left_out_gives, later_gives, absent_gives}
use Rattle.j_verbs.proofs.words.cell.Goals as goal

pub returns-in-OnOne : goal.returns-in-OnOne
returns-in-OnOne c = one_gives c.in-OnOne.m c.args.p (option_copied c.args.x) c.args.y.now c.of_one.result c.in-OnOne.ensures.value c.of_one.ensures

pub returns-in-OnTwo : goal.returns-in-OnTwo
returns-in-OnTwo c = two_gives c.in-OnTwo.d c.args.p (option_copied c.args.x) c.args.y.now c.on_two.result c.in-OnTwo.ensures.value c.on_two.ensures

pub returns-in_ok-left_argument-in-LeftArgument : goal.returns-in_ok-left_argument-in-LeftArgument
returns-in_ok-left_argument-in-LeftArgument c = left_gives c.args.p (option_copied c.args.x) c.args.y.now c.in_ok-left_argument-in-LeftArgument.field-0 c.in-LeftArgument.ensures.value c.in_ok-left_argument-in-LeftArgument.ensures

pub returns-in_ok-duplicate-in-RightArgument : goal.returns-in_ok-duplicate-in-RightArgument
returns-in_ok-duplicate-in-RightArgument c = right_gives c.args.p (option_copied c.args.x) c.args.y.now c.in_ok-duplicate-in-RightArgument.field-0 c.in-RightArgument.ensures.value c.in_ok-duplicate-in-RightArgument.ensures.ok

pub returns-in-Constant : goal.returns-in-Constant
returns-in-Constant c = constant_gives c.args.p (option_copied c.args.x) c.args.y.now c.constant.result c.in-Constant.ensures.value c.constant.ensures

pub returns-in-LeftOut : goal.returns-in-LeftOut
returns-in-LeftOut c = left_out_gives c.args.p (option_copied c.args.x) c.args.y.now c.in-LeftOut.ensures.value

pub returns-in-Later : goal.returns-in-Later
returns-in-Later c = later_gives c.args.p (option_copied c.args.x) c.args.y.now c.in-Later.ensures.value

pub returns-in-Absent : goal.returns-in-Absent
returns-in-Absent c = absent_gives c.args.p (option_copied c.args.x) c.args.y.now c.in-Absent.ensures.value
