use native.Mathlib.Omega.{arith}
use Rattle.lists.specs.Table.{length-table}
use Rattle.model_texts.specs.Hex.{hex_digit, hex_line}
use Rattle.sheet_text.specs.Put.{put-len, put_then}
use Rattle.sheet_text.proofs.print.put_line.Goals as goal

pub put_byte-requires : goal.put_byte-requires
put_byte-requires c = omega (
  arith,
  put-len c.put_word-end.ensures,
  c.put_word-end.ensures.behind,
  length-table (hex_digit c.args.word) 16,
)

pub returns : goal.returns
unfolding hex_line
returns c = put_then c.put_word-end.ensures c.put_byte.ensures
