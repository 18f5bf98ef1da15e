use native.Mathlib.Omega.{arith}
use mathlib.Core.Path.{sym, ◌∙◌}
use Rattle.settings_store.specs.Tests.{valid-long}
use Rattle.settings_store.specs.Gates.{save_18, save_3, save_4, save-13, save-15, save-done}
use Rattle.settings_store.proofs.answer.save_answer.Goals as goal

pub returns-then-not-is_valid : goal.returns-then-not-is_valid
returns-then-not-is_valid c = save_18 _ _ _ _ (sym c.is_valid.ensures ∙ c.if-not-is_valid.true)

pub returns-then-department-ge32 : goal.returns-then-department-ge32
returns-then-department-ge32 c =
    save_3 _ _ _ _
    (sym c.is_valid.ensures ∙ c.if-not-is_valid.false) c.if-department-ge32.true

pub returns-then-not-in_range : goal.returns-then-not-in_range
returns-then-not-in_range c =
    save_4 _ _ _ _
    (sym c.is_valid.ensures ∙ c.if-not-is_valid.false) c.if-department-ge32.false
    (sym c.in_range.ensures ∙ c.if-not-in_range.true)

pub bounds-words-at : goal.bounds-words-at
bounds-words-at c =
    omega (
      arith,
      valid-long _
          (sym c.is_valid.ensures ∙ c.if-not-is_valid.false),
    )

pub returns-then-from-v : goal.returns-then-from-v
returns-then-from-v c =
    save-13 _ _ _ _
    (sym c.is_valid.ensures ∙ c.if-not-is_valid.false)
    c.if-department-ge32.false
    (sym c.in_range.ensures ∙ c.if-not-in_range.false)
    c.if-from-v.true

pub returns-then-v-ge4294967295 : goal.returns-then-v-ge4294967295
returns-then-v-ge4294967295 c =
    save-15 _ _ _ _
    (sym c.is_valid.ensures ∙ c.if-not-is_valid.false)
    c.if-department-ge32.false
    (sym c.in_range.ensures ∙ c.if-not-in_range.false) c.if-from-v.false c.if-v-ge4294967295.true

pub returns : goal.returns
returns c =
    save-done _ _ _ _
    (sym c.is_valid.ensures ∙ c.if-not-is_valid.false)
    c.if-department-ge32.false
    (sym c.in_range.ensures ∙ c.if-not-in_range.false) c.if-from-v.false c.if-v-ge4294967295.false
