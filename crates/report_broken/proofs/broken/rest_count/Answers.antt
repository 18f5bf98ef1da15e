use native.Mathlib.Omega.{arith}
use Rattle.sheet_reading.specs.Reading.{step_small}
use Rattle.report_broken.specs.Headers.{words-taken, words-known, words_count, words-few, words_small}
use Rattle.report_broken.proofs.broken.rest_count.Goals as goal

pub slice_bounds-total_of-end : goal.slice_bounds-total_of-end
slice_bounds-total_of-end c =
    words-taken c.requires c.fill_words.ensures
    c.input_count-inputs.ensures

pub total_of-requires : goal.total_of-requires
total_of-requires c =
    record {
      fact_1 = words-known c.requires c.fill_words.ensures c.input_count-inputs.ensures;
      fact_2 = omega (
        arith,
        words-taken c.requires
            c.fill_words.ensures c.input_count-inputs.ensures,
        words-few c.requires c.fill_words.ensures
            c.input_count-inputs.ensures,
      );
    }

pub overflow_add-result : goal.overflow_add-result
overflow_add-result c =
    omega (
      arith,
      c.total_of.ensures,
      c.step_count.ensures,
      words_small c.requires
          c.fill_words.ensures
          c.input_count-inputs.ensures,
      step_small c.args.text.now,
    )

pub returns : goal.returns
returns c =
    omega (
      arith,
      c.total_of.ensures,
      c.step_count.ensures,
      words_count
          c.requires c.fill_words.ensures
          c.input_count-inputs.ensures,
    )
