use native.Mathlib.Omega.{arith}
use lib.Dec.{lit<}
use Rattle.shape_words.specs.Lengths.{sizes-low}
use Rattle.shape_words.specs.Places.{next_0, next_1, next_2}
use Rattle.shape_words.proofs.places.next_row.Goals as goal

pub overflow_add-i : goal.overflow_add-i
overflow_add-i c = let h = c.requires.fact_2.inside.i2 in omega (arith, h, sizes-low c.requires.fact_1 2 (lit< tt))

pub overflow_add-result : goal.overflow_add-result
overflow_add-result c = let h = c.requires.fact_2.inside.i2 in omega (arith, h, sizes-low c.requires.fact_1 2 (lit< tt))

pub returns-then-i-n : goal.returns-then-i-n
returns-then-i-n c =
    next_2 c.args.n c.args.i c.requires.fact_1 c.requires.fact_2.begins
    c.requires.fact_2.inside.i1 c.if-i-n.true

pub overflow_add-i-2 : goal.overflow_add-i-2
overflow_add-i-2 c = let h = c.requires.fact_2.inside.i1 in omega (arith, h, sizes-low c.requires.fact_1 1 (lit< tt))

pub overflow_add-result-then-i-n-2 : goal.overflow_add-result-then-i-n-2
overflow_add-result-then-i-n-2 c = let h = c.requires.fact_2.inside.i1 in omega (arith, h, sizes-low c.requires.fact_1 1 (lit< tt))

pub returns-then-i-n-2 : goal.returns-then-i-n-2
returns-then-i-n-2 c =
    next_1 c.args.n c.args.i c.requires.fact_1 c.requires.fact_2.begins c.if-i-n-2.true (let h = c.requires.fact_2.inside.i2 in omega arith)

pub overflow_add-result-2 : goal.overflow_add-result-2
overflow_add-result-2 c = let h = c.requires.fact_2.inside.i0 in omega (arith, h, sizes-low c.requires.fact_1 0 (lit< tt))

pub returns : goal.returns
returns c =
    next_0 c.args.n c.args.i c.requires.fact_1 c.requires.fact_2.begins (let h = c.requires.fact_2.inside.i1 in omega arith) (let h =
    c.requires.fact_2.inside.i2 in omega arith)
