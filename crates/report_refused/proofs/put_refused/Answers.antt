use native.Mathlib.Omega.{arith}
use mathlib.Core.Path.{sym}
use lib.Seq.{length-take-le}
use Rattle.sheet_text.specs.Put.{put-len}
use Rattle.report_lines.specs.Puts.{put-taken}
use Rattle.report_refused.proofs.put_refused.Goals as goal

pub slice_bounds-put-end : goal.slice_bounds-put-end
slice_bounds-put-end c =
    sym (length-take-le _ _ (omega (arith, c.put_refusal-end.ensures.fits, put-len c.put_refusal-end.ensures)))

pub returns : goal.returns
returns c = rw (put-taken c.put_refusal-end.ensures) at c.put.ensures
