use Rattle.std.proofs.lemmas.Result.{err_from_is_err_and}
use mathlib.Core.Path.{refl}
use lib.Seq.{length-take-le}
use mathlib.Core.Path.{◌≡◌, sym, ap, ◌∙◌}
use lib.ListN.{length}
use Rattle.model.specs.Word.{header_of}
use Rattle.model.specs.Header.{stored}
use Rattle.model.specs.Readings.{extract_linear_answer}
use Rattle.gates.specs.Gate.{ReadReady, read-ready, line_refused, line-done}
use Rattle.readings.specs.Read.{read-lengths}
use Rattle.readings.proofs.extract_linear.Goals as goal

pub returns-in_err-h : goal.returns-in_err-h
unfolding extract_linear_answer
returns-in_err-h c =
    let p = err_from_is_err_and c.from_residual.result c.from_residual.ensures.1 in rw (p.1, p.2)
    (line_refused c.in_err-h.ensures.is c.in_err-h.ensures.some _)

pub stored_of-count-requires : goal.stored_of-count-requires
stored_of-count-requires c =
    let ready : ReadReady c.args.head (length c.args.a.now) =
    read-ready _ _ c.in_ok-h.ensures.none in
    rw c.in_ok-h.ensures.holds (ready).good.regular.rules

pub slice_bounds-linear_of-end : goal.slice_bounds-linear_of-end
slice_bounds-linear_of-end c =
    let counted : c.stored_of-count.result ≡ stored (header_of c.args.head) =
    c.stored_of-count.ensures ∙ ap stored c.in_ok-h.ensures.holds in
    let ready : ReadReady c.args.head (length c.args.a.now) =
    read-ready _ _ c.in_ok-h.ensures.none in
    sym (length-take-le _ c.args.a.now (rw (counted) (ready).full))

pub linear_of-requires : goal.linear_of-requires
linear_of-requires c =
    let ready : ReadReady c.args.head (length c.args.a.now) =
    read-ready _ _ c.in_ok-h.ensures.none in
    let counted : c.stored_of-count.result ≡ stored (header_of c.args.head) =
    c.stored_of-count.ensures ∙ ap stored c.in_ok-h.ensures.holds in
    record {
      fact_1 = rw c.in_ok-h.ensures.holds (read-lengths (ready));
      fact_2 = length-take-le _ c.args.a.now (rw (counted) (ready).full) ∙
          c.stored_of-count.ensures;
    }

pub returns : goal.returns
unfolding extract_linear_answer
returns c =
    let counted : c.stored_of-count.result ≡ stored (header_of c.args.head) =
    c.stored_of-count.ensures ∙ ap stored c.in_ok-h.ensures.holds in
    line-done refl c.in_ok-h.ensures.none
    (c.linear_of.ensures
    ∙ (rw (counted, c.in_ok-h.ensures.holds)))
