use Rattle.model.specs.Header.{good_vars}
use Rattle.shape_words.proofs.word.good_vars.Goals as goal

pub returns : goal.returns
unfolding good_vars
returns c = simp (c.good_var-4.ensures, c.good_var-3.ensures, c.good_var-2.ensures, c.good_var.ensures)
