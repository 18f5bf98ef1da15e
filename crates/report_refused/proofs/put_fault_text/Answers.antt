use native.Mathlib.Omega.{arith}
use mathlib.Core.Path.{refl, sym, ap, ◌∙◌}
use lib.Seq.{length-take-le}
use Rattle.model.specs.declared.Refusal.{Refusal}
use Rattle.report_refused.specs.Placed.{read_none, read-few, read-opening, read-placed}
use Rattle.report_refused.specs.Said.{read_is, said_read, said-recipe}
use Rattle.report_refused.proofs.put_fault_text.Goals as goal

pub put_read_fault-requires : goal.put_read_fault-requires
put_read_fault-requires c =
    c.requires.0 ∙ read_is _ (λ z. c.in-Err.ensures.some (ap (λ (x : Refusal). x.number) c.in-Err.ensures.holds.answer ∙ z))

pub returns-in-Err : goal.returns-in-Err
returns-in-Err c =
    rw (said_read _ c.requires.0 c.requires.1 (λ z. c.in-Err.ensures.some (ap (λ (x : Refusal). x.number) c.in-Err.ensures.holds.answer ∙ z)))
    c.put_read_fault.ensures

pub slice_bounds-headers-end : goal.slice_bounds-headers-end
slice_bounds-headers-end c =
    omega (arith, read-few c.in-Ok.ensures refl c.input_count-inputs.ensures, c.in-Ok.ensures.len)

pub slice_bounds-put_recipe_fault-end : goal.slice_bounds-put_recipe_fault-end
slice_bounds-put_recipe_fault-end c =
    sym (length-take-le _ _ (omega (
      arith,
      read-few c.in-Ok.ensures refl c.input_count-inputs.ensures,
      c.in-Ok.ensures.len,
    )))

pub put_recipe_fault-requires : goal.put_recipe_fault-requires
put_recipe_fault-requires c =
    record {
      fact_1 = read-opening c.in-Ok.ensures refl c.input_count-inputs.ensures c.edition_of-edition.ensures;
      fact_2 = read-placed c.in-Ok.ensures refl c.input_count-inputs.ensures c.requires.0;
    }

pub returns-in-Ok : goal.returns-in-Ok
returns-in-Ok c =
    rw (said-recipe _ c.requires.0 c.requires.1
    (read_none c.in-Ok.ensures refl c.input_count-inputs.ensures))
    c.put_recipe_fault.ensures
