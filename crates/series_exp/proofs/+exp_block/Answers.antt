use native.Mathlib.Omega.{arith}
use borrow.Author.Rules.{rules}
use Rattle.std.proofs.Common.{ℕ, ◌<◌}
use Rattle.shape_words.specs.Strides.{span_none}
use Rattle.series_exp.specs.Stacked.{room-same, room_next, block_none, block_more}
use Rattle.series_exp.proofs.+exp_block.Goals as goal

pub bounds-work-0 : goal.bounds-work-0
bounds-work-0 t c = omega (arith, c.requires.1.rows, c.requires.1.room, span_none c.args.r c.if-v-eq4.true)

pub returns-then-v-eq4 : goal.returns-then-v-eq4
returns-then-v-eq4 t c = record {
  work_after = block_none c.args.head c.args.lx c.args.r c.args.xs.now c.args.work.now
      c.if-v-eq4.true (omega (arith, c.requires.1.rows, c.requires.1.room, span_none c.args.r c.if-v-eq4.true));
  spent = search rules;
}

pub overflow_add-v : goal.overflow_add-v
overflow_add-v t c = omega (arith, c.requires.1.within)

pub exp_block-requires : goal.exp_block-requires
exp_block-requires t c =
    let h : c.args.v < 4 = omega (arith, c.requires.1.within) in
    (omega (arith, c.decreases), (c.requires.0, room_next c.requires.0 c.requires.1 h))

pub exp_rows-requires : goal.exp_rows-requires
exp_rows-requires t c = record {
  fact_1 = c.requires.0;
  fact_2 = room-same c.requires.1 c.exp_block.auto.work c.exp_block.auto.row;
  fact_3 = omega (arith, c.requires.1.within);
}

pub returns : goal.returns
returns t c =
    let h : c.args.v < 4 = omega (arith, c.requires.1.within) in
    record {
      work_after = block_more c.args.head c.args.lx c.args.r c.args.xs.now
          c.exp_block.new.work c.exp_rows.new.work
          h c.requires.1.operand c.exp_block.ensures.work_after c.exp_rows.ensures.work_after;
      spent = search rules;
    }
