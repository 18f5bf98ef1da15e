use Rattle.report_inputs.specs.Held.{front-known, front-few, front-full, ruled, rest-length, input-is}
use native.Mathlib.Omega.{arith}
use Rattle.report_figures.specs.Fill.{puts-is}
use Rattle.report_inputs.proofs.put_input.Goals as goal

pub total_of-from-requires : goal.total_of-from-requires
total_of-from-requires c =
    record { fact_1 = front-known c.requires.fact_1 c.args.i; fact_2 = front-few c.requires.fact_1 c.args.i }

pub offset_bounds-xs-from : goal.offset_bounds-xs-from
offset_bounds-xs-from c =
    omega (arith, c.total_of-from.ensures, front-full c.requires.fact_1 c.args.i c.requires.fact_2, c.requires.fact_1.small)

pub slice_bounds-put_lines-count : goal.slice_bounds-put_lines-count
slice_bounds-put_lines-count c =
    omega (arith, c.total_of-from.ensures, front-full c.requires.fact_1 c.args.i c.requires.fact_2, c.requires.fact_1.small)

pub slice_bounds-put_lines-start : goal.slice_bounds-put_lines-start
slice_bounds-put_lines-start c =
    omega (arith, c.total_of-from.ensures, front-full c.requires.fact_1 c.args.i c.requires.fact_2, c.requires.fact_1.small)

pub put_lines-requires : goal.put_lines-requires
put_lines-requires c =
    record {
      fact_1 = rw c.header_of.ensures (ruled c.requires.fact_1 c.args.i);
      fact_2 = rw c.header_of.ensures (omega (
        arith,
        rest-length c.args.xs.now c.total_of-from.result,
        c.total_of-from.ensures,
        front-full c.requires.fact_1 c.args.i c.requires.fact_2,
        c.requires.fact_1.small,
      ));
    }

pub returns : goal.returns
returns c =
    puts-is (input-is c.args.headers.now c.args.xs.now c.args.i c.header_of.ensures c.total_of-from.ensures) c.put_lines.ensures
