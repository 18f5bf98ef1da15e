use Rattle.std.proofs.lemmas.Result.{err_from_is_err_and}
use mathlib.Core.Path.{refl, sym, ap, ◌∙◌}
use lib.ListN.{length}
use Rattle.model.specs.Readings.{constant_term_answer}
use Rattle.gates.specs.Gate.{ReadReady, read-ready, read-refused, read_done}
use Rattle.readings.specs.Read.{read_some}
use Rattle.readings.proofs.constant_term.Goals as goal

pub returns-in_err-_h : goal.returns-in_err-_h
unfolding constant_term_answer
returns-in_err-_h c =
    let p = err_from_is_err_and c.from_residual.result c.from_residual.ensures.1 in rw (p.1, p.2)
    (read-refused c.in_err-_h.ensures.is c.in_err-_h.ensures.some _)

pub bounds-a-0 : goal.bounds-a-0
bounds-a-0 c =
    let ready : ReadReady c.args.head (length c.args.a.now) =
    read-ready _ _ c.in_ok-_h.ensures.none in
    read_some (ready)

pub returns : goal.returns
unfolding constant_term_answer
returns c = read_done refl c.in_ok-_h.ensures.none refl
