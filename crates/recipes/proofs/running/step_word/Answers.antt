use native.Mathlib.Omega.{arith}
use mathlib.Core.Path.{◌≡◌, ap, ◌∙◌}
use mathlib.Core.Bool.{true}
use mathlib.Core.List.{[], ◌∷◌}
use lib.Dec.{eqb}
use lib.Ieee.{Float}
use lib.ListN.{length, take}
use borrow.Author.Tests.{eqb-true}
use Rattle.lists.specs.Test.{and_left}
use Rattle.model.specs.Word.{word_of}
use Rattle.model.specs.Refusals.{padded}
use Rattle.model.specs.Poly.{Poly}
use Rattle.model_recipes.specs.Kinds.{idle, one_like}
use Rattle.shape_operands.specs.Lent.{kept_as}
use Rattle.recipes_laws.specs.Editions.{idle_step}
use Rattle.recipes.specs.Standing.{lying_at, Named, plain_value, one_value, one_float}
use borrow.Author.Rules.{rules}
use Rattle.recipes.proofs.running.step_word.Goals as goal

pub offset_bounds-known-a : goal.offset_bounds-known-a
offset_bounds-known-a c =
    let test : idle_step c.args.edition c.args.s ≡ true =
    rw (← c.is_idle.ensures) c.if-s-is_idle.true in
    let named : Named c.args.s c.args.inputs c.args.known.now c.args.starts.now
    (length c.args.coefficients.now) c.args.at c.args.room =
    c.requires.fact_1.named (λ z.
    omega (arith, z, eqb-true c.args.s.kind 6 (and_left (eqb c.args.s.kind 6) (idle c.args.edition c.args.s.n) (test)))) in
    omega (arith, (named).a_known, c.well_formed)

pub bounds-known-a : goal.bounds-known-a
bounds-known-a c =
    let test : idle_step c.args.edition c.args.s ≡ true =
    rw (← c.is_idle.ensures) c.if-s-is_idle.true in
    let named : Named c.args.s c.args.inputs c.args.known.now c.args.starts.now
    (length c.args.coefficients.now) c.args.at c.args.room =
    c.requires.fact_1.named (λ z.
    omega (arith, z, eqb-true c.args.s.kind 6 (and_left (eqb c.args.s.kind 6) (idle c.args.edition c.args.s.n) (test)))) in
    (named).a_known

pub one_word-requires : goal.one_word-requires
one_word-requires c =
    let test : idle_step c.args.edition c.args.s ≡ true =
    rw (← c.is_idle.ensures) c.if-s-is_idle.true in
    let named : Named c.args.s c.args.inputs c.args.known.now c.args.starts.now
    (length c.args.coefficients.now) c.args.at c.args.room =
    c.requires.fact_1.named (λ z.
    omega (arith, z, eqb-true c.args.s.kind 6 (and_left (eqb c.args.s.kind 6) (idle c.args.edition c.args.s.n) (test)))) in
    (named).ready.left.regular.rules

pub returns-then-s-is_idle : goal.returns-then-s-is_idle
unfolding one_like
returns-then-s-is_idle c =
    let test : idle_step c.args.edition c.args.s ≡ true =
    rw (← c.is_idle.ensures) c.if-s-is_idle.true in
    let same = one_value c.args.edition c.args.s
    (lying_at c.args.inputs c.args.known.now c.args.starts.now
    c.args.coefficients.now (take c.args.at c.args.pool.now) c.args.s.a)
    (lying_at c.args.inputs c.args.known.now c.args.starts.now
    c.args.coefficients.now (take c.args.at c.args.pool.now) c.args.s.b) (test) in record {
      word = c.one_word.ensures ∙ ap (λ (p : Poly). word_of p.head) same;
      kept = kept_as (ap (λ (x : Float). padded c.args.room (x ∷ [])) one_float
          ∙ ap (λ (p : Poly). padded c.args.room p.coeffs) same) c.constant_to.ensures;
      spent = search rules;
    }

pub returns : goal.returns
returns c =
    let same = plain_value c.args.edition c.args.s
    (lying_at c.args.inputs c.args.known.now c.args.starts.now
    c.args.coefficients.now (take c.args.at c.args.pool.now) c.args.s.a)
    (lying_at c.args.inputs c.args.known.now c.args.starts.now
    c.args.coefficients.now (take c.args.at c.args.pool.now) c.args.s.b)
    (rw (← c.is_idle.ensures) c.if-s-is_idle.false) in record {
      word = c.plain_word.ensures.word ∙ ap (λ (p : Poly). word_of p.head) same;
      kept = kept_as (ap (λ (p : Poly). padded c.args.room p.coeffs) same) c.plain_word.ensures.kept;
      spent = search rules;
    }
