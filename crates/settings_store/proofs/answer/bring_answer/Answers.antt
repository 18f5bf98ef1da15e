use native.Mathlib.Omega.{arith}
use mathlib.Core.Path.{sym, ap, ◌∙◌}
use Rattle.model_settings.specs.Store.{told}
use Rattle.settings_store.specs.Tests.{valid-long}
use Rattle.settings_store.specs.Gates.{bring_18, bring_3, bring_13, bring-14, bring-15, bring-done}
use Rattle.settings_store.proofs.answer.bring_answer.Goals as goal

pub returns-then-not-is_valid : goal.returns-then-not-is_valid
returns-then-not-is_valid c = bring_18 _ _ _ _ (sym c.is_valid.ensures ∙ c.if-not-is_valid.true)

pub returns-then-department-ge32 : goal.returns-then-department-ge32
returns-then-department-ge32 c =
    bring_3 _ _ _ _
    (sym c.is_valid.ensures ∙ c.if-not-is_valid.false) c.if-department-ge32.true

pub bounds-words-at : goal.bounds-words-at
bounds-words-at c =
    omega (arith, valid-long _ (sym c.is_valid.ensures ∙ c.if-not-is_valid.false))

pub returns-then-from-current : goal.returns-then-from-current
returns-then-from-current c =
    bring_13 _ _ _ _
    (sym c.is_valid.ensures ∙ c.if-not-is_valid.false) c.if-department-ge32.false c.if-from-current.true

pub returns-then-not-is_kept : goal.returns-then-not-is_kept
returns-then-not-is_kept c =
    bring-14 _ _ _ _
    (sym c.is_valid.ensures ∙ c.if-not-is_valid.false)
    c.if-department-ge32.false c.if-from-current.false
    (sym c.is_kept.ensures ∙ c.if-not-is_kept.true)

pub returns-then-current-ge4294967295 : goal.returns-then-current-ge4294967295
returns-then-current-ge4294967295 c =
    bring-15 _ _ _ _
    (sym c.is_valid.ensures ∙ c.if-not-is_valid.false)
    c.if-department-ge32.false c.if-from-current.false
    (sym c.is_kept.ensures ∙ c.if-not-is_kept.false) c.if-current-ge4294967295.true

pub slot-requires : goal.slot-requires
slot-requires c = record {
  fact_1 = omega (
    arith,
    valid-long _
        (sym c.is_valid.ensures ∙ c.if-not-is_valid.false),
  );
  fact_2 = omega arith;
  fact_3 = omega arith;
}

pub returns : goal.returns
returns c =
    (ap (told _) c.slot.ensures ∙ bring-done _ _ _ _
    (sym c.is_valid.ensures ∙ c.if-not-is_valid.false)
    c.if-department-ge32.false
    c.if-from-current.false
    (sym c.is_kept.ensures ∙ c.if-not-is_kept.false)
    c.if-current-ge4294967295.false)
