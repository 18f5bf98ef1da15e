use Rattle.report_lines.specs.Puts.{puts_then}
use Rattle.settings_text.specs.Tests.{whole, whole-counts}
use Rattle.settings_command.specs.Asked.{reply_text, current_text, department_of}
use Rattle.settings_command.specs.Settles.{told-alone, told-stale}
use Rattle.settings_command.proofs.asked.reply.Goals as goal

pub returns-in-Ok : goal.returns-in-Ok
unfolding reply_text
returns-in-Ok c =
    let p = whole c.put_shown.ensures in
    record { printed = rw c.in-Ok.is p; within = whole-counts p }

pub returns-in-Stale : goal.returns-in-Stale
unfolding reply_text
returns-in-Stale c =
    let p = whole (puts_then (rw c.number.ensures at c.put_refusal-next.ensures) c.put_current.ensures) in
    let e = told-stale c.in-Err.why (current_text c.department.result c.args.words.now) c.in-Stale.is in
    record {
      printed = rw (c.in-Err.is, ← c.department.ensures, ← e) p;
      within = whole-counts p;
    }

pub returns-in_default : goal.returns-in_default
unfolding reply_text
returns-in_default c =
    let p = whole (rw c.number.ensures at c.put_refusal-next.ensures) in
    record {
      printed = rw (c.in-Err.is, ← told-alone c.in-Err.why (current_text (department_of c.args.asked) c.args.words.now) c.in_default.not-Stale) p;
      within = whole-counts p;
    }
