use native.Mathlib.Omega.{arith}
use Rattle.npy_answers.specs.Tested.{start-here, not-begun, not-lined, not_good, here_ruled, here-few, not-long, lines_decide}
use Rattle.npy_answers.proofs.is_answer.Goals as goal

pub returns-then-start-eq0 : goal.returns-then-start-eq0
returns-then-start-eq0 c =
    not-begun c.args.text.now c.lines_start-start.ensures c.if-start-eq0.true

pub is_line-requires : goal.is_line-requires
is_line-requires c =
    let k = start-here c.args.text.now c.lines_start-start.ensures in omega arith

pub returns-then-not-is_line : goal.returns-then-not-is_line
returns-then-not-is_line c =
    not-lined c.args.text.now
    c.lines_start-start.ensures c.if-start-eq0.false c.is_line.ensures
    c.if-not-is_line.true

pub word_at-head-requires : goal.word_at-head-requires
word_at-head-requires c =
    let k = start-here c.args.text.now c.lines_start-start.ensures in omega arith

pub returns-then-not-is_good : goal.returns-then-not-is_good
returns-then-not-is_good c =
    not_good c.args.text.now
    c.lines_start-start.ensures
    c.if-start-eq0.false
    c.is_line.ensures
    c.if-not-is_line.false
    c.word_at-head.ensures
    c.is_good.ensures c.if-not-is_good.true

pub stored_of-count-requires : goal.stored_of-count-requires
stored_of-count-requires c =
    here_ruled c.args.text.now
    c.lines_start-start.ensures
    c.if-start-eq0.false
    c.is_line.ensures
    c.if-not-is_line.false
    c.word_at-head.ensures
    c.is_good.ensures
    c.if-not-is_good.false
    c.header_of.ensures

pub overflow_add-count : goal.overflow_add-count
overflow_add-count c =
    let k = here-few c.args.text.now
    c.lines_start-start.ensures
    c.if-start-eq0.false
    c.is_line.ensures
    c.if-not-is_line.false
    c.word_at-head.ensures
    c.is_good.ensures
    c.if-not-is_good.false
    c.header_of.ensures
    c.stored_of-count.ensures in
    let m = start-here c.args.text.now
    c.lines_start-start.ensures in omega arith

pub overflow_mul-count : goal.overflow_mul-count
overflow_mul-count c =
    let k = here-few c.args.text.now
    c.lines_start-start.ensures
    c.if-start-eq0.false
    c.is_line.ensures
    c.if-not-is_line.false
    c.word_at-head.ensures
    c.is_good.ensures
    c.if-not-is_good.false
    c.header_of.ensures
    c.stored_of-count.ensures in
    let m = start-here c.args.text.now
    c.lines_start-start.ensures in omega arith

pub overflow_add-start : goal.overflow_add-start
overflow_add-start c =
    let k = here-few c.args.text.now
    c.lines_start-start.ensures
    c.if-start-eq0.false
    c.is_line.ensures
    c.if-not-is_line.false
    c.word_at-head.ensures
    c.is_good.ensures
    c.if-not-is_good.false
    c.header_of.ensures
    c.stored_of-count.ensures in
    let m = start-here c.args.text.now
    c.lines_start-start.ensures in omega arith

pub returns-then-text-start : goal.returns-then-text-start
returns-then-text-start c =
    not-long
    c.args.text.now
    c.lines_start-start.ensures
    c.if-start-eq0.false
    c.is_line.ensures
    c.if-not-is_line.false
    c.word_at-head.ensures
    c.is_good.ensures
    c.if-not-is_good.false
    c.header_of.ensures
    c.stored_of-count.ensures c.if-text-start.true

pub all_lines-requires : goal.all_lines-requires
all_lines-requires c =
    let k = here-few c.args.text.now
    c.lines_start-start.ensures
    c.if-start-eq0.false
    c.is_line.ensures
    c.if-not-is_line.false
    c.word_at-head.ensures
    c.is_good.ensures
    c.if-not-is_good.false
    c.header_of.ensures
    c.stored_of-count.ensures in (
      start-here c.args.text.now
          c.lines_start-start.ensures,
      k,
    )

pub returns : goal.returns
returns c =
    lines_decide
    c.args.text.now
    c.lines_start-start.ensures
    c.if-start-eq0.false
    c.is_line.ensures
    c.if-not-is_line.false
    c.word_at-head.ensures
    c.is_good.ensures
    c.if-not-is_good.false
    c.header_of.ensures
    c.stored_of-count.ensures (omega (arith, c.if-text-start.false)) c.all_lines.ensures
