use Rattle.product.specs.Short.{light-yes, light_no}
use mathlib.Core.Path.{sym, ◌∙◌}
use Rattle.product.proofs.own.light_way.Goals as goal

pub returns-then-is_light : goal.returns-then-is_light
returns-then-is_light c = light-yes _ _ _ c.choose-w.ensures (sym c.is_light.ensures ∙ c.if-is_light.true)

pub returns-else-is_light : goal.returns-else-is_light
returns-else-is_light c = light_no _ _ _ c.choose-w.ensures (sym c.is_light.ensures ∙ c.if-is_light.false)
