use native.Mathlib.Omega.{arith}
use Rattle.sheet_text.specs.Put.{put-len, put_then}
use Rattle.sheet_text.specs.Texts.{length-line}
use Rattle.npy_sheets.specs.Shown.{sheet_text}
use Rattle.npy_sheets.proofs.put_sheet.Goals as goal

pub put_floats-requires : goal.put_floats-requires
put_floats-requires c =
    omega (
      arith,
      put-len c.put_line-a.ensures,
      c.put_line-a.ensures.behind,
      length-line c.args.head,
    )

pub returns : goal.returns
unfolding sheet_text
returns c = put_then c.put_line-a.ensures c.put_floats.ensures
