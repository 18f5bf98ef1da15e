use mathlib.Core.Path.{◌∙◌}
use Rattle.mending.specs.Words.{word-one, word-header, word-coefficient, word-step}
use Rattle.mending.proofs.words.mended_word.Goals as goal

pub returns-then-k-eq0 : goal.returns-then-k-eq0
returns-then-k-eq0 c =
    c.mended_one.ensures ∙ word-one c.args.inputs c.args.count _ _
    c.if-k-eq0.true

pub returns-then-k-inputs : goal.returns-then-k-inputs
returns-then-k-inputs c =
    c.mended_header.ensures ∙ word-header c.args.inputs c.args.count _ _ c.if-k-eq0.false
    c.if-k-inputs.true

pub returns-then-k-inputs-2 : goal.returns-then-k-inputs-2
returns-then-k-inputs-2 c =
    word-coefficient c.args.inputs c.args.count _ _ c.if-k-eq0.false c.if-k-inputs.false
    c.if-k-inputs-2.true

pub returns : goal.returns
returns c =
    c.mended_step.ensures ∙ word-step c.args.inputs c.args.count _ _ c.if-k-eq0.false
    c.if-k-inputs.false c.if-k-inputs-2.false
