use mathlib.Core.Path.{ap, ◌∙◌}
use lib.ListN.{length, take}
use Rattle.model.specs.Word.{word_of}
use Rattle.model.specs.Refusals.{padded}
use Rattle.model.specs.Poly.{Poly}
use Rattle.shape_words.specs.Rules.{none-regular}
use Rattle.shape_operands.specs.Lent.{kept_as}
use Rattle.recipes.specs.Standing.{lying_at, Named, plain-constant}
use borrow.Author.Rules.{rules}
use Rattle.recipes.proofs.running.plain_word.Goals as goal

pub pack-requires : goal.pack-requires
pack-requires c = rw c.none.ensures none-regular.rules

pub returns-then-s-eq-CONSTANT : goal.returns-then-s-eq-CONSTANT
returns-then-s-eq-CONSTANT c =
    record {
      word = c.pack.ensures ∙ (ap word_of c.none.ensures
          ∙ ap (λ (p : Poly). word_of p.head) (plain-constant c.args.s
          (lying_at c.args.inputs c.args.known.now c.args.starts.now
          c.args.coefficients.now (take c.args.at c.args.pool.now) c.args.s.a)
          (lying_at c.args.inputs c.args.known.now c.args.starts.now
          c.args.coefficients.now (take c.args.at c.args.pool.now) c.args.s.b)
          c.if-s-eq-CONSTANT.true));
      kept = kept_as (ap (λ (p : Poly). padded c.args.room p.coeffs)
          (plain-constant c.args.s (lying_at c.args.inputs c.args.known.now
          c.args.starts.now c.args.coefficients.now (take c.args.at c.args.pool.now)
          c.args.s.a) (lying_at c.args.inputs c.args.known.now c.args.starts.now
          c.args.coefficients.now (take c.args.at c.args.pool.now) c.args.s.b)
          c.if-s-eq-CONSTANT.true)) c.constant_to.ensures;
      spent = search rules;
    }

pub bounds-known-a : goal.bounds-known-a
bounds-known-a c =
    let named : Named c.args.s c.args.inputs c.args.known.now c.args.starts.now
    (length c.args.coefficients.now) c.args.at c.args.room =
    c.requires.fact_1.named c.if-s-eq-CONSTANT.false in
    (named).a_known

pub bounds-starts-a : goal.bounds-starts-a
bounds-starts-a c =
    let named : Named c.args.s c.args.inputs c.args.known.now c.args.starts.now
    (length c.args.coefficients.now) c.args.at c.args.room =
    c.requires.fact_1.named c.if-s-eq-CONSTANT.false in
    (named).a_starts

pub bounds-known-b : goal.bounds-known-b
bounds-known-b c =
    let named : Named c.args.s c.args.inputs c.args.known.now c.args.starts.now
    (length c.args.coefficients.now) c.args.at c.args.room =
    c.requires.fact_1.named c.if-s-eq-CONSTANT.false in
    (named).b_known

pub bounds-starts-b : goal.bounds-starts-b
bounds-starts-b c =
    let named : Named c.args.s c.args.inputs c.args.known.now c.args.starts.now
    (length c.args.coefficients.now) c.args.at c.args.room =
    c.requires.fact_1.named c.if-s-eq-CONSTANT.false in
    (named).b_starts

pub perform-requires : goal.perform-requires
perform-requires c =
    let named : Named c.args.s c.args.inputs c.args.known.now c.args.starts.now
    (length c.args.coefficients.now) c.args.at c.args.room =
    c.requires.fact_1.named c.if-s-eq-CONSTANT.false in
    record { fact_1 = (named).ready; fact_2 = (named).placed; fact_3 = c.requires.fact_2 }
