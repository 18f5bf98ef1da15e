use Rattle.report_lines.specs.Puts.{puts_then, put-taken}
use Rattle.lists.specs.Bytes.{bytes}
use Rattle.model_texts.specs.Number.{hex_text}
use Rattle.settings_text.proofs.line.put_hex.Goals as goal

pub returns : goal.returns
unfolding hex_text bytes
returns c =
    puts_then c.put-next.ensures (rw (put-taken c.put_word-end.ensures) at c.put.ensures)
