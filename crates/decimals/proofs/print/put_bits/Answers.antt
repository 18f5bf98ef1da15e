use Rattle.report_lines.specs.Puts.{puts_then, put-taken}
use Rattle.lists.specs.Bytes.{bytes}
use Rattle.model_texts.specs.Number.{hex_text}
use Rattle.model_decimals.specs.Text.{bits_text}
use Rattle.decimals.proofs.print.put_bits.Goals as goal

pub returns : goal.returns
unfolding bits_text hex_text bytes
returns c =
    puts_then c.put-next.ensures (rw (put-taken c.put_word-end.ensures) at c.put.ensures)
