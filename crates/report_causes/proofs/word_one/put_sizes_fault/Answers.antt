use native.Mathlib.Omega.{arith}
use Rattle.lists.specs.Bytes.{bytes}
use Rattle.report_lines.specs.Puts.{puts_then}
use Rattle.model_faults.specs.WordOne.{sizes_fault}
use Rattle.model_texts.specs.Sheet.{spare}
use Rattle.sheet_reading.specs.Reading.{count_small, step_small}
use Rattle.report_causes.proofs.word_one.put_sizes_fault.Goals as goal

pub put_word_one_cause-requires : goal.put_word_one_cause-requires
put_word_one_cause-requires c = (
  omega (arith, c.input_count.ensures, count_small c.args.text.now),
  omega (
    arith,
    c.step_count.ensures,
    step_small c.args.text.now,
  ),
)

pub returns : goal.returns
unfolding sizes_fault spare bytes
returns c =
    rw (
      ← c.input_count.ensures,
      ← c.step_count.ensures,
      ← c.edition_of-edition.ensures,
      ← c.word_at-zeros.ensures,
    ) (puts_then
    c.put-next.ensures
    c.put_word_one_cause.ensures)
