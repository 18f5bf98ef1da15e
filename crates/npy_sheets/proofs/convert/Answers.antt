use native.Mathlib.Omega.{arith}
use mathlib.Core.Path.{sym, ◌∙◌}
use Rattle.npy_sheets.specs.Prints.{passed-short, array-passed, array-other}
use Rattle.npy_sheets.proofs.convert.Goals as goal

pub put_array-requires : goal.put_array-requires
put_array-requires c =
    record { fact_1 = sym c.is_answer.ensures ∙ c.if-is_answer.true; fact_2 = c.requires }

pub put_bytes-requires : goal.put_bytes-requires
put_bytes-requires c =
    let m = passed-short c.args.text.now (sym c.is_refusal.ensures ∙ c.if-is_refusal.true)
    in
    omega (arith, m, c.requires.1)

pub returns-then-is_refusal : goal.returns-then-is_refusal
returns-then-is_refusal c =
    array-passed c.args.newer c.args.text.now
    (sym c.is_answer.ensures ∙ c.if-is_answer.false)
    c.args.values.now
    (sym c.is_refusal.ensures ∙ c.if-is_refusal.true)
    c.put_bytes.ensures

pub returns : goal.returns
returns c =
    array-other c.args.newer c.args.text.now
    (sym c.is_answer.ensures ∙ c.if-is_answer.false)
    c.args.values.now
    c.by.ensures
    (sym c.is_refusal.ensures ∙ c.if-is_refusal.false)
    c.put_refusal.ensures
