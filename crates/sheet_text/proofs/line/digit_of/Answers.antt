use native.Mathlib.Omega.{arith}
use borrow.Author.Tests.{leb-true}
use lib.Dec.{leb}
use Rattle.lists.specs.Test.{and_left}
use Rattle.model_texts.specs.Hex.{digit_of}
use Rattle.sheet_text.proofs.line.digit_of.Goals as goal

pub overflow_sub-result : goal.overflow_sub-result
overflow_sub-result c = let b = c.args.b in omega (arith, leb-true 48 b (and_left (leb 48 b) (leb b 57) c.if-b.true))

pub returns-then-b : goal.returns-then-b
unfolding digit_of
returns-then-b c = rw c.if-b.true

pub overflow_sub-result-then-b-2 : goal.overflow_sub-result-then-b-2
overflow_sub-result-then-b-2 c = let b = c.args.b in omega (arith, leb-true 97 b (and_left (leb 97 b) (leb b 102) c.if-b-2.true))

pub returns-then-b-2 : goal.returns-then-b-2
unfolding digit_of
returns-then-b-2 c = rw (c.if-b.false, c.if-b-2.true)

pub returns : goal.returns
unfolding digit_of
returns c = rw (c.if-b.false, c.if-b-2.false)
