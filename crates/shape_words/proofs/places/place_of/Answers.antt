use native.Mathlib.Omega.{arith}
use mathlib.Core.Path.{sym}
use Rattle.shape_words.specs.Places.{horner, place_steps_lem}
use Rattle.shape_words.proofs.places.place_of.Goals as goal

pub overflow_mul-result : goal.overflow_mul-result
overflow_mul-result c = let p = place_steps_lem c.args.n c.args.i c.requires.fact_1 c.requires.fact_2 in omega (arith, p.first, p.second, p.last)

pub overflow_add-result : goal.overflow_add-result
overflow_add-result c = let p = place_steps_lem c.args.n c.args.i c.requires.fact_1 c.requires.fact_2 in omega (arith, p.first, p.second, p.last)

pub overflow_mul-result-2 : goal.overflow_mul-result-2
overflow_mul-result-2 c = let p = place_steps_lem c.args.n c.args.i c.requires.fact_1 c.requires.fact_2 in omega (arith, p.first, p.second, p.last)

pub overflow_add-result-2 : goal.overflow_add-result-2
overflow_add-result-2 c = let p = place_steps_lem c.args.n c.args.i c.requires.fact_1 c.requires.fact_2 in omega (arith, p.first, p.second, p.last)

pub overflow_mul-result-3 : goal.overflow_mul-result-3
overflow_mul-result-3 c = let p = place_steps_lem c.args.n c.args.i c.requires.fact_1 c.requires.fact_2 in omega (arith, p.first, p.second, p.last)

pub overflow_add-result-3 : goal.overflow_add-result-3
overflow_add-result-3 c = let p = place_steps_lem c.args.n c.args.i c.requires.fact_1 c.requires.fact_2 in omega (arith, p.first, p.second, p.last)

pub returns : goal.returns
returns c = sym (horner _ _)
