use mathlib.Core.Path.{sym, ◌∙◌}
use native.Mathlib.Omega.{arith}
use Rattle.shape_words.specs.Lengths.{count-pos}
use Rattle.substitution_way.specs.Ways.{way-none, way-zero, way-line, way-horner}
use Rattle.substitution_way.proofs.choose.Goals as goal

pub returns-then-vars-v : goal.returns-then-vars-v
returns-then-vars-v c = way-none _ _ _ c.if-vars-v.true

pub is_zero-requires : goal.is_zero-requires
is_zero-requires c = omega (arith, count-pos c.requires.fact_1, c.requires.fact_2)

pub returns-then-is_zero : goal.returns-then-is_zero
returns-then-is_zero c =
    way-zero _ _ _ (omega (arith, c.if-vars-v.false)) (sym c.is_zero.ensures ∙ c.if-is_zero.true)

pub returns-then-line-v : goal.returns-then-line-v
returns-then-line-v c =
    way-line _ _ _ (omega (arith, c.if-vars-v.false))
    (sym c.is_zero.ensures ∙ c.if-is_zero.false)
    c.linear_of-line.ensures c.if-line-v.true

pub returns : goal.returns
returns c =
    way-horner _ _ _ (omega (arith, c.if-vars-v.false))
    (sym c.is_zero.ensures ∙ c.if-is_zero.false)
    c.linear_of-line.ensures c.if-line-v.false
