use Rattle.report_lines.specs.Puts.{puts_then}
use Rattle.lists.specs.Bytes.{bytes}
use Rattle.settings_text.specs.Text.{version_text}
use Rattle.settings_text.proofs.line.put_version.Goals as goal

pub returns : goal.returns
unfolding version_text bytes
returns c =
    puts_then c.tell-a.ensures
    (rw c.slot.ensures at c.put_content.ensures)
