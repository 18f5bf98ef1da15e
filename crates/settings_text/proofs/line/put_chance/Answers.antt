use Rattle.lists.specs.Bytes.{bytes}
use Rattle.report_lines.specs.Puts.{puts_then}
use Rattle.settings_text.specs.Text.{chance_text}
use Rattle.settings_text.proofs.line.put_chance.Goals as goal

pub returns : goal.returns
unfolding chance_text bytes
returns c =
    puts_then c.put_float_of-a.ensures
    (puts_then c.put-b.ensures (puts_then c.put_hex-c.ensures c.put.ensures))
