use mathlib.Core.Path.{◌∙◌, sym}
use native.Mathlib.Omega.{arith}
use lib.ListN.{length-set}
use lib.Seq.{length-take-le}
use Rattle.sheet_text.specs.Put.{put-len}
use Rattle.sheet_text.specs.Decimal.{decimal-most}
use Rattle.report_lines.specs.Puts.{puts_none, put-taken}
use Rattle.decimals.specs.Digits.{dotted, point-none, point-some}
use Rattle.decimals.proofs.print.put_point.Goals as goal

pub returns-then-part-eq0 : goal.returns-then-part-eq0
returns-then-part-eq0 c = rw (point-none _ c.if-part-eq0.true) (puts_none _ _)

pub put_decimal-end-requires : goal.put_decimal-end-requires
put_decimal-end-requires c = omega (arith, decimal-most 20 c.trimmed.result (omega arith) (omega arith) (omega arith))

pub slice_bounds-digits-end : goal.slice_bounds-digits-end
slice_bounds-digits-end c = simp length-set (omega (arith, c.put_decimal-end.ensures.fits, put-len c.put_decimal-end.ensures))

pub slice_bounds-put-end : goal.slice_bounds-put-end
slice_bounds-put-end c =
    sym (length-take-le _ _ (simp length-set (omega (
      arith,
      c.put_decimal-end.ensures.fits,
      put-len
          c.put_decimal-end.ensures,
    ))))

pub returns : goal.returns
returns c =
    rw (point-some _ c.if-part-eq0.false) (rw (dotted c.put_decimal-end.result _ _ (put-taken c.put_decimal-end.ensures ∙ c.trimmed.ensures)) at
    c.put.ensures)
