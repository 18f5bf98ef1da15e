use mathlib.Core.Path.{ap, ◌∙◌}
use Prim.Native.Nat.{◌-◌}
use Rattle.model.specs.Refusals.{padded}
use Rattle.model.specs.Poly.{Poly}
use Rattle.shape_operands.specs.Lent.{lying, kept_as}
use Rattle.recipes_steps.specs.Ready.{to-power, power-value, to-pair, pair-value, to-substitute}
use Rattle.recipes_steps.specs.Ready.{substitute-value, to_exponential, exponential-value, to-change, change-value}
use borrow.Author.Rules.{rules}
use Rattle.recipes_steps.proofs.perform.value_to.Goals as goal

pub power_to-requires : goal.power_to-requires
power_to-requires c =
    record { fact_1 = to-power c.requires.fact_1 c.if-kind-eq-POWER.true; fact_2 = c.requires.fact_2.left; fact_3 = c.requires.fact_3 }

pub returns-then-kind-eq-POWER : goal.returns-then-kind-eq-POWER
returns-then-kind-eq-POWER c =
    record {
      head = c.power_to.ensures.head ∙ ap (λ (p : Poly). p.head)
          (power-value c.requires.fact_1 c.if-kind-eq-POWER.true
          (lying c.args.xi c.args.coefficients.now c.args.pool.now
          c.args.xf c.args.x) (lying c.args.yi c.args.coefficients.now
          c.args.pool.now c.args.yf c.args.y));
      kept = kept_as (ap (λ (p : Poly). padded c.args.n p.coeffs)
          (power-value c.requires.fact_1 c.if-kind-eq-POWER.true
          (lying c.args.xi c.args.coefficients.now c.args.pool.now
          c.args.xf c.args.x) (lying c.args.yi c.args.coefficients.now
          c.args.pool.now c.args.yf c.args.y)))
          c.power_to.ensures.kept;
      spent = search rules;
    }

pub pair_to-requires : goal.pair_to-requires
pair_to-requires c =
    record { fact_1 = to-pair c.requires.fact_1 c.if-kind.true; fact_2 = c.requires.fact_2.left; fact_3 = c.requires.fact_2.right; fact_4 = c.requires.fact_3 }

pub returns-then-kind : goal.returns-then-kind
returns-then-kind c =
    record {
      head = c.pair_to.ensures.head ∙ ap (λ (p : Poly). p.head)
          (pair-value c.requires.fact_1 c.if-kind.true
          (lying c.args.xi c.args.coefficients.now c.args.pool.now
          c.args.xf c.args.x) (lying c.args.yi c.args.coefficients.now
          c.args.pool.now c.args.yf c.args.y));
      kept = kept_as (ap (λ (p : Poly). padded c.args.n p.coeffs)
          (pair-value c.requires.fact_1 c.if-kind.true
          (lying c.args.xi c.args.coefficients.now c.args.pool.now
          c.args.xf c.args.x) (lying c.args.yi c.args.coefficients.now
          c.args.pool.now c.args.yf c.args.y)))
          c.pair_to.ensures.kept;
      spent = search rules;
    }

pub stored_of-requires : goal.stored_of-requires
stored_of-requires c = c.requires.fact_1.left.regular.rules

pub stored_of-requires-then-kind-eq-SUBSTITUTION : goal.stored_of-requires-then-kind-eq-SUBSTITUTION
stored_of-requires-then-kind-eq-SUBSTITUTION c = c.requires.fact_1.right.regular.rules

pub substitute_to-requires : goal.substitute_to-requires
substitute_to-requires c =
    record {
      fact_1 = to-substitute c.requires.fact_1 c.if-kind-eq-SUBSTITUTION.true;
      fact_2 = record {
        full = c.stored_of.ensures;
        aside =
            c.requires.fact_2.left;
      };
      fact_3 = record { full = c.stored_of-then-kind-eq-SUBSTITUTION.ensures; aside = c.requires.fact_2.right };
      fact_4 = c.requires.fact_3;
    }

pub returns-then-kind-eq-SUBSTITUTION : goal.returns-then-kind-eq-SUBSTITUTION
returns-then-kind-eq-SUBSTITUTION c =
    record {
      head = c.substitute_to.ensures.head ∙ ap (λ (p : Poly). p.head)
          (substitute-value c.requires.fact_1 c.if-kind-eq-SUBSTITUTION.true
          (lying c.args.xi c.args.coefficients.now c.args.pool.now
          c.args.xf c.args.x) (lying c.args.yi c.args.coefficients.now
          c.args.pool.now c.args.yf c.args.y));
      kept = kept_as (ap (λ (p : Poly). padded c.args.n p.coeffs)
          (substitute-value c.requires.fact_1 c.if-kind-eq-SUBSTITUTION.true
          (lying c.args.xi c.args.coefficients.now c.args.pool.now
          c.args.xf c.args.x) (lying c.args.yi c.args.coefficients.now
          c.args.pool.now c.args.yf c.args.y)))
          c.substitute_to.ensures.kept;
      spent = search rules;
    }

pub exp_to-requires : goal.exp_to-requires
exp_to-requires c =
    record { fact_1 = to_exponential c.requires.fact_1 c.if-kind-eq-EXP.true; fact_2 = c.requires.fact_2.left; fact_3 = c.requires.fact_3 }

pub returns-then-kind-eq-EXP : goal.returns-then-kind-eq-EXP
returns-then-kind-eq-EXP c =
    record {
      head = c.exp_to.ensures.head ∙ ap (λ (p : Poly). p.head)
          (exponential-value c.requires.fact_1 c.if-kind-eq-EXP.true
          (lying c.args.xi c.args.coefficients.now c.args.pool.now
          c.args.xf c.args.x) (lying c.args.yi c.args.coefficients.now
          c.args.pool.now c.args.yf c.args.y));
      kept = kept_as (ap (λ (p : Poly). padded c.args.n p.coeffs)
          (exponential-value c.requires.fact_1 c.if-kind-eq-EXP.true
          (lying c.args.xi c.args.coefficients.now c.args.pool.now
          c.args.xf c.args.x) (lying c.args.yi c.args.coefficients.now
          c.args.pool.now c.args.yf c.args.y)))
          c.exp_to.ensures.kept;
      spent = search rules;
    }

pub change_to-requires : goal.change_to-requires
change_to-requires c =
    record {
      fact_1 = to-change c.requires.fact_1 c.if-kind-eq-POWER.false
          c.if-kind.false c.if-kind-eq-SUBSTITUTION.false
          c.if-kind-eq-EXP.false;
      fact_2 = c.requires.fact_2.left;
      fact_3 = c.requires.fact_3;
    }

pub returns : goal.returns
returns c =
    record {
      head = c.change_to.ensures.head ∙ ap (λ (p : Poly). p.head)
          (change-value c.requires.fact_1 c.if-kind-eq-POWER.false c.if-kind.false c.if-kind-eq-SUBSTITUTION.false c.if-kind-eq-EXP.false
          (lying c.args.xi c.args.coefficients.now c.args.pool.now
          c.args.xf c.args.x) (lying c.args.yi c.args.coefficients.now
          c.args.pool.now c.args.yf c.args.y));
      kept = kept_as (ap (λ (p : Poly). padded c.args.n p.coeffs)
          (change-value c.requires.fact_1 c.if-kind-eq-POWER.false c.if-kind.false c.if-kind-eq-SUBSTITUTION.false c.if-kind-eq-EXP.false
          (lying c.args.xi c.args.coefficients.now c.args.pool.now
          c.args.xf c.args.x) (lying c.args.yi c.args.coefficients.now
          c.args.pool.now c.args.yf c.args.y)))
          c.change_to.ensures.kept;
      spent = search rules;
    }
