use native.Mathlib.Omega.{arith}
use Rattle.model.specs.declared.Refusal.{Refusal}
use lib.ListN.{length}
use mathlib.Core.Path.{refl, ap, ◌∙◌}
use Rattle.model_recipes.specs.declared.Step.{Step}
use Rattle.recipes_kinds.specs.Known.{step-regular, small-variable}
use Rattle.recipes_kinds.specs.Gated.{gate_7, gate_3, gate_4, gate_5, gate-none}
use Rattle.recipes_kinds.proofs.gate.gate.Goals as goal

pub returns-then-not-is_formed : goal.returns-then-not-is_formed
returns-then-not-is_formed c =
    record {
      some = λ z. omega (arith, ap (λ (r : Refusal). r.number) c.at.ensures, z);
      holds = c.at.ensures ∙ gate_7 c.args.edition c.args.word (length c.args.known.now) c.args.known.now refl
          c.is_formed.ensures c.if-not-is_formed.true;
    }

pub returns-then-not-has_variable : goal.returns-then-not-has_variable
returns-then-not-has_variable c =
    record {
      some = λ z. omega (arith, ap (λ (r : Refusal). r.number) c.at-then-not-has_variable.ensures, z);
      holds = c.at-then-not-has_variable.ensures ∙ gate_3 c.args.edition c.args.word (length c.args.known.now) c.args.known.now refl
          c.is_formed.ensures
          c.if-not-is_formed.false
          c.step_of-s.ensures c.head_at-a.ensures
          c.has_variable.ensures c.if-not-has_variable.true;
    }

pub below_limit-requires : goal.below_limit-requires
below_limit-requires c = rw (ap (λ (s : Step). s.variable) c.step_of-s.ensures) (small-variable _)

pub returns-then-not-below_limit : goal.returns-then-not-below_limit
returns-then-not-below_limit c =
    record {
      some = λ z. omega (arith, ap (λ (r : Refusal). r.number) c.at-then-not-below_limit.ensures, z);
      holds = c.at-then-not-below_limit.ensures ∙ gate_4 c.args.edition c.args.word (length c.args.known.now) c.args.known.now refl
          c.is_formed.ensures c.if-not-is_formed.false
          c.step_of-s.ensures
          c.head_at-a.ensures
          c.has_variable.ensures c.if-not-has_variable.false
          c.below_limit.ensures c.if-not-below_limit.true;
    }

pub stored_of-requires : goal.stored_of-requires
stored_of-requires c =
    rw c.announce.ensures (step-regular _ _ c.requires.fact_1).rules

pub returns-then-stored_of-gt-COUNT : goal.returns-then-stored_of-gt-COUNT
returns-then-stored_of-gt-COUNT c =
    record {
      some = λ z. omega (arith, ap (λ (r : Refusal). r.number) c.at-then-stored_of-gt-COUNT.ensures, z);
      holds = c.at-then-stored_of-gt-COUNT.ensures ∙ gate_5 c.args.edition c.args.word (length c.args.known.now) c.args.known.now refl
          c.is_formed.ensures c.if-not-is_formed.false c.step_of-s.ensures c.head_at-a.ensures
          c.has_variable.ensures
          c.if-not-has_variable.false
          c.below_limit.ensures
          c.if-not-below_limit.false c.announce.ensures
          c.stored_of.ensures c.if-stored_of-gt-COUNT.true;
    }

pub returns : goal.returns
returns c =
    gate-none c.args.edition c.args.word (length c.args.known.now) c.args.known.now refl
    c.is_formed.ensures c.if-not-is_formed.false c.step_of-s.ensures c.head_at-a.ensures
    c.has_variable.ensures
    c.if-not-has_variable.false
    c.below_limit.ensures
    c.if-not-below_limit.false c.announce.ensures
    c.stored_of.ensures c.if-stored_of-gt-COUNT.false
