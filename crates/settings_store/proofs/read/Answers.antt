use native.Mathlib.Omega.{arith}
use mathlib.Core.Path.{sym, ap, ◌∙◌}
use Rattle.model_settings.specs.Store.{told}
use Rattle.settings_store.specs.Tests.{valid-long}
use Rattle.settings_store.specs.Gates.{read_18, read_3, read_done}
use Rattle.settings_store.proofs.read.Goals as goal

pub returns-then-not-is_valid : goal.returns-then-not-is_valid
returns-then-not-is_valid c = read_18 _ _ (sym c.is_valid.ensures ∙ c.if-not-is_valid.true)

pub returns-then-department-ge32 : goal.returns-then-department-ge32
returns-then-department-ge32 c =
    read_3 _ _
    (sym c.is_valid.ensures ∙ c.if-not-is_valid.false) c.if-department-ge32.true

pub bounds-words-at : goal.bounds-words-at
bounds-words-at c =
    omega (arith, valid-long _ (sym c.is_valid.ensures ∙ c.if-not-is_valid.false))

pub slot-requires : goal.slot-requires
slot-requires c = record { fact_1 = omega (arith, valid-long _ (sym c.is_valid.ensures ∙ c.if-not-is_valid.false)); fact_2 = omega arith; fact_3 = omega arith }

pub returns : goal.returns
returns c =
    (ap (told _) c.slot.ensures ∙ read_done _ _
    (sym c.is_valid.ensures ∙ c.if-not-is_valid.false) c.if-department-ge32.false)
