use Rattle.settings_text.specs.Tests.{whole, whole-counts}
use Rattle.report_lines.specs.Puts.{puts_then}
use Rattle.settings_text.proofs.whole.beside.Goals as goal

pub returns : goal.returns
returns c =
    let p = whole (puts_then c.put-next.ensures
    c.put.ensures) in
    record { printed = p; within = whole-counts p }
