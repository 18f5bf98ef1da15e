use native.Mathlib.Omega.{arith}
use mathlib.Core.Path.{sym}
use lib.Seq.{length-take-le}
use Rattle.sheet_text.specs.Put.{put-len}
use Rattle.report_lines.specs.Puts.{puts_then, put-taken}
use Rattle.lists.specs.Bytes.{bytes}
use Rattle.model_texts.specs.Hex.{hex_line}
use Rattle.settings_text.proofs.file.put_hex_line.Goals as goal

pub slice_bounds-put-end : goal.slice_bounds-put-end
slice_bounds-put-end c =
    sym (length-take-le _ _ (omega (arith, c.put_word-end.ensures.fits, put-len c.put_word-end.ensures)))

pub returns : goal.returns
unfolding hex_line bytes
returns c =
    puts_then (rw (put-taken
    c.put_word-end.ensures) at
    c.put-next.ensures) c.put.ensures
