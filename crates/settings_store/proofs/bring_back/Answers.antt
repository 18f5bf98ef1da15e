use mathlib.Core.Path.{◌∙◌}
use Rattle.std.proofs.lemmas.Result.{err_from_is_err_and}
use Rattle.settings_store.specs.Tests.{ranged, valid-long}
use Rattle.settings_store.specs.Gates.{bring-accepted, put-done, put-none}
use Rattle.settings_store.proofs.bring_back.Goals as goal

pub returns-in_err-a : goal.returns-in_err-a
returns-in_err-a c =
    let p = err_from_is_err_and c.from_residual.result c.from_residual.ensures.1 in
    rw (p.1, p.2) (c.in_err-a.ensures, put-none _ _ c.in_err-a.ensures)

pub write-requires : goal.write-requires
write-requires c =
    let h = bring-accepted _ _ _ _ c.in_ok-a.ensures in
    let r = ranged _ h.range in
    record { fact_1 = valid-long _ h.sound; fact_2 = h.department; fact_3 = (r.high, r.recipe) }

pub returns : goal.returns
returns c = (c.in_ok-a.ensures, c.write.ensures ∙ put-done _ _ c.in_ok-a.ensures)
