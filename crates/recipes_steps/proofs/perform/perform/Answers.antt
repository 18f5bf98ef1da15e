use mathlib.Core.Path.{ap, ◌∙◌}
use Rattle.model.specs.Word.{word_of}
use Rattle.model.specs.Refusals.{padded}
use Rattle.model.specs.Poly.{Poly}
use Rattle.shape_operands.specs.Lent.{kept_as}
use Rattle.recipes_steps.specs.Beside.{placed-beside, value_before}
use borrow.Author.Rules.{rules}
use Rattle.recipes_steps.proofs.perform.perform.Goals as goal

pub perform_beside-requires : goal.perform_beside-requires
perform_beside-requires c =
    record { fact_1 = c.requires.fact_1; fact_2 = placed-beside c.requires.fact_2 c.requires.fact_3.room; fact_3 = c.requires.fact_3 }

pub returns : goal.returns
returns c =
    let e = value_before c.args.s c.args.coefficients.now c.args.pool.now c.requires.fact_2 in record {
      word = c.perform_beside.ensures.word
          ∙ ap (λ (p : Poly). word_of p.head) e;
      kept = kept_as (ap (λ (p : Poly). padded c.args.room p.coeffs) e)
          c.perform_beside.ensures.kept;
      spent = search rules;
    }
