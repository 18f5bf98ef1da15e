use Rattle.lists.specs.Bytes.{bytes}
use Rattle.report_lines.specs.Puts.{puts_then}
use Rattle.settings_command.specs.Sentence.{refusal_text}
use Rattle.settings_command.proofs.sentence.put_refusal.Goals as goal

pub returns : goal.returns
unfolding refusal_text bytes
returns c =
    puts_then c.tell-a.ensures (puts_then c.put-b.ensures (puts_then c.put_meaning-c.ensures c.put.ensures))
