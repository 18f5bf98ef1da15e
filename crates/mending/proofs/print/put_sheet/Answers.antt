use mathlib.Core.Path.{ap}
use native.Mathlib.Omega.{arith}
use Rattle.sheet_text.specs.Put.{put-len}
use Rattle.model_texts.specs.Hex.{hex_line}
use Rattle.mending.specs.Lines.{going-small, end-most}
use Rattle.mending.specs.Changes.{printing-none, printing-more, word-is, sheet-length}
use Rattle.mending.proofs.print.put_sheet.Goals as goal

pub loop-k-init : goal.loop-k-init
loop-k-init c = printing-none _ _ _ _ _ (omega arith)

pub old_word-requires : goal.old_word-requires
old_word-requires c = omega (arith, going-small c.loop-k.invariant.going)

pub put_line-next-requires : goal.put_line-next-requires
put_line-next-requires c =
    omega (
      arith,
      sheet-length c.args.text.now c.args.inputs c.args.count
          c.loop-k.k,
      c.loop-k.invariant.put.behind,
      put-len c.loop-k.invariant.put,
    )

pub line_end-from-requires : goal.line_end-from-requires
line_end-from-requires c =
    omega (arith, going-small c.loop-k.invariant.going)

pub overflow_add-from : goal.overflow_add-from
overflow_add-from c =
    omega (
      arith,
      going-small c.loop-k.invariant.going,
      c.line_end-from.ensures,
      end-most c.args.text.now
          c.loop-k.from,
    )

pub loop-k-preserved : goal.loop-k-preserved
loop-k-preserved c =
    printing-more c.loop-k.invariant c.loop-k-test.true c.line_end-from.ensures (ap hex_line (word-is
    c.args.inputs c.args.count c.loop-k.invariant.going c.old_word.ensures
    c.mended_word.ensures)) c.put_line-next.ensures
