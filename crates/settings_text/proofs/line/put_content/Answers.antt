use Rattle.report_lines.specs.Puts.{puts_then}
use Rattle.lists.specs.Bytes.{bytes}
use Rattle.settings_text.specs.Text.{content_text}
use Rattle.settings_text.proofs.line.put_content.Goals as goal

pub returns : goal.returns
unfolding content_text bytes
returns c =
    puts_then c.put-a.ensures
    (puts_then c.put_chance-b.ensures
    (puts_then c.tell-d.ensures (puts_then c.tell-e.ensures c.put.ensures)))
