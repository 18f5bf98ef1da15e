use Rattle.model.specs.Header.{good_header}
use mathlib.Core.Path.{sym, ◌∙◌}
use lib.Dec.{leb}
use borrow.Author.Tests.{leb-true}
use Rattle.lists.specs.Test.{and_left, and_right}
use Rattle.model.specs.Cap.{most_cap}
use Rattle.shape_words.specs.Rules.{good_vars_lem}
use Rattle.shape_words.specs.Lengths.{lengths_of_lem}
use Rattle.shape_words.proofs.word.good_header.Goals as goal

pub count_of-requires : goal.count_of-requires
count_of-requires c =
    let h = c.args.h in
    let t = c.if-good_vars-h.true in
    lengths_of_lem (good_vars_lem h (sym c.good_vars.ensures ∙ and_left c.good_vars.result (leb h.cap most_cap) t)
    (leb-true _ _ (and_right c.good_vars.result (leb h.cap most_cap) t)))

pub returns-then-good_vars-h : goal.returns-then-good_vars-h
unfolding good_header
returns-then-good_vars-h c = simp (c.count_of.ensures, ← c.good_vars.ensures, c.if-good_vars-h.true)

pub returns-else-good_vars-h : goal.returns-else-good_vars-h
unfolding good_header
returns-else-good_vars-h c = simp (← c.good_vars.ensures, c.if-good_vars-h.false)
