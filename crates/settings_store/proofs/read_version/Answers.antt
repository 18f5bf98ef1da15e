use native.Mathlib.Omega.{arith}
use mathlib.Core.Path.{sym, ap, ◌∙◌}
use Rattle.model_settings.specs.Store.{told}
use Rattle.settings_store.specs.Tests.{valid-long}
use Rattle.settings_store.specs.Gates.{version_18, version_3, version_14, version-done}
use Rattle.settings_store.proofs.read_version.Goals as goal

pub returns-then-not-is_valid : goal.returns-then-not-is_valid
returns-then-not-is_valid c = version_18 _ _ _ (sym c.is_valid.ensures ∙ c.if-not-is_valid.true)

pub returns-then-department-ge32 : goal.returns-then-department-ge32
returns-then-department-ge32 c =
    version_3 _ _ _
    (sym c.is_valid.ensures ∙ c.if-not-is_valid.false) c.if-department-ge32.true

pub bounds-words-at : goal.bounds-words-at
bounds-words-at c =
    omega (arith, valid-long _ (sym c.is_valid.ensures ∙ c.if-not-is_valid.false))

pub returns-then-not-is_kept : goal.returns-then-not-is_kept
returns-then-not-is_kept c =
    version_14 _ _ _
    (sym c.is_valid.ensures ∙ c.if-not-is_valid.false) c.if-department-ge32.false
    (sym c.is_kept.ensures ∙ c.if-not-is_kept.true)

pub slot-requires : goal.slot-requires
slot-requires c = record {
  fact_1 = omega (
    arith,
    valid-long _
        (sym c.is_valid.ensures ∙ c.if-not-is_valid.false),
  );
  fact_2 = omega arith;
  fact_3 = omega arith;
}

pub returns : goal.returns
returns c =
    (ap (told _) c.slot.ensures ∙ version-done _ _ _
    (sym c.is_valid.ensures ∙ c.if-not-is_valid.false)
    c.if-department-ge32.false
    (sym c.is_kept.ensures ∙ c.if-not-is_kept.false))
