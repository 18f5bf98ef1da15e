use Rattle.std.specs.Result.{is_ok}
use mathlib.Core.Path.{ap, ◌∙◌}
use Rattle.settings_command.specs.Asked.{perform_text}
use Rattle.settings_command.proofs.asked.perform.Goals as goal

pub returns-clause-done : goal.returns-clause-done
unfolding perform_text
returns-clause-done c =
    let e = c.settle-answer.ensures in
    (c.is_ok.ensures.value ∙ ap is_ok e.0, (e.1, rw (← e.0, ← e.1) c.reply-n.ensures.printed))
