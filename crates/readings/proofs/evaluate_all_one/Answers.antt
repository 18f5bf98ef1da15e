use Rattle.std.proofs.lemmas.Result.{err_from_is_err_and}
use mathlib.Core.Path.{refl}
use mathlib.Core.Path.{◌≡◌, sym, ap, ◌∙◌}
use lib.ListN.{length}
use Rattle.model.specs.Word.{header_of}
use Rattle.model.specs.Header.{stored}
use Rattle.model.specs.Readings.{sum_to, evaluate_all_one_answer}
use Rattle.gates.specs.Gate.{ReadReady, read-ready, read-refused, read_done}
use Rattle.readings.proofs.evaluate_all_one.Goals as goal

pub returns-in_err-h : goal.returns-in_err-h
unfolding evaluate_all_one_answer
returns-in_err-h c =
    let p = err_from_is_err_and c.from_residual.result c.from_residual.ensures.1 in rw (p.1, p.2)
    (read-refused c.in_err-h.ensures.is c.in_err-h.ensures.some _)

pub stored_of-requires : goal.stored_of-requires
stored_of-requires c =
    let ready : ReadReady c.args.head (length c.args.a.now) =
    read-ready _ _ c.in_ok-h.ensures.none in
    rw c.in_ok-h.ensures.holds (ready).good.regular.rules

pub sum_to-requires : goal.sum_to-requires
sum_to-requires c =
    let counted : c.stored_of.result ≡ stored (header_of c.args.head) =
    c.stored_of.ensures ∙ ap stored c.in_ok-h.ensures.holds in
    let ready : ReadReady c.args.head (length c.args.a.now) =
    read-ready _ _ c.in_ok-h.ensures.none in
    rw (counted) (ready).full

pub returns : goal.returns
unfolding evaluate_all_one_answer
returns c =
    let counted : c.stored_of.result ≡ stored (header_of c.args.head) =
    c.stored_of.ensures ∙ ap stored c.in_ok-h.ensures.holds in
    read_done refl c.in_ok-h.ensures.none
    (c.sum_to.ensures ∙ ap (sum_to c.args.a.now)
    (counted))
