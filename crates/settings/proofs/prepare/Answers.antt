use Rattle.settings_text.specs.Tests.{whole, whole-counts}
use Rattle.settings.proofs.prepare.Goals as goal

pub returns-in-Err : goal.returns-in-Err
returns-in-Err g c = whole-counts (whole c.put_unread-n.ensures)
