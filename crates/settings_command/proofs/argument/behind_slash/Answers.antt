use Rattle.settings_command.specs.Tests.{slash-yes, slash_no}
use Rattle.settings_command.proofs.argument.behind_slash.Goals as goal

pub returns-then-b-eq47 : goal.returns-then-b-eq47
returns-then-b-eq47 c = slash-yes _ _ _ c.if-b-eq47.true

pub returns-else-b-eq47 : goal.returns-else-b-eq47
returns-else-b-eq47 c = slash_no _ _ _ c.if-b-eq47.false
