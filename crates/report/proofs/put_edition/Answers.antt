use mathlib.Core.List.{[]}
use Rattle.lists.specs.Bytes.{bytes}
use Rattle.model_forecast.specs.Told.{edition_text}
use Rattle.report_lines.specs.Puts.{printed-none}
use Rattle.report.proofs.put_edition.Goals as goal

pub returns : goal.returns
unfolding edition_text bytes
returns c =
    rw (← c.edition_of.ensures) (c.put_if.ensures [] _ (printed-none _))
