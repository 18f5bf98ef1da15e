use native.Mathlib.Omega.{arith}
use Rattle.report_lines.specs.Puts.{putting-none, putting-more, putting_end}
use Rattle.settings_text.specs.Text.{store_text}
use Rattle.settings_text.proofs.file.put_store.Goals as goal

pub loop-k-init : goal.loop-k-init
loop-k-init c = putting-none _ 544 _ _

pub loop-k-preserved : goal.loop-k-preserved
loop-k-preserved c =
    putting-more c.loop-k.invariant (omega arith)
    c.put_hex_line-next.auto.to c.put_hex_line-next.ensures

pub shape_of-to : goal.shape_of-to
shape_of-to c = c.loop-k.invariant.len

pub returns : goal.returns
unfolding store_text
returns c = putting_end c.loop-k.invariant (omega arith)
