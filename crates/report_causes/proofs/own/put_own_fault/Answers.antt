use native.Mathlib.Omega.{arith}
use mathlib.Core.Path.{sym, ap, ◌∙◌}
use lib.ListN.{length-take, length-drop}
use lib.Seq.{length-take-le}
use Rattle.model.specs.Header.{stored}
use Rattle.recipes_check.specs.Counts.{word_ruled}
use Rattle.sheet_limits.specs.Limits.{front-known, back-known}
use Rattle.report_causes.specs.Counts.{front-most, own_large, own-totals}
use Rattle.report_causes.proofs.own.put_own_fault.Goals as goal

pub slice_bounds-total_of-end : goal.slice_bounds-total_of-end
slice_bounds-total_of-end c = sym (length-take-le _ _ c.requires.fact_2.0)

pub total_of-c-requires : goal.total_of-c-requires
total_of-c-requires c =
    record { fact_1 = front-known c.args.known.now c.args.k c.requires.fact_1; fact_2 = simp length-take (omega arith) }

pub total_of-d-requires : goal.total_of-d-requires
total_of-d-requires c =
    record { fact_1 = back-known c.args.known.now c.args.k c.requires.fact_1; fact_2 = simp (length-take, length-drop) (omega arith) }

pub first_large-p-requires : goal.first_large-p-requires
first_large-p-requires c = c.requires.fact_1

pub stored_of-n-requires : goal.stored_of-n-requires
stored_of-n-requires c =
    rw c.header_of.ensures (word_ruled c.args.known.now c.requires.fact_1 _)

pub put_large-requires : goal.put_large-requires
put_large-requires c =
    omega (
      arith,
      c.total_of-c.ensures,
      front-most c.args.known.now
          c.args.k c.requires.fact_1 c.requires.fact_2.0,
      c.requires.fact_2.1,
    )

pub returns-then-p-known : goal.returns-then-p-known
returns-then-p-known c =
    rw (← own_large c.args.known.now _ (c.stored_of-n.ensures ∙ ap stored
    c.header_of.ensures) c.args.k
    c.first_large-p.ensures
    c.if-p-known.true
    c.total_of-c.ensures)
    c.put_large.ensures

pub returns : goal.returns
returns c =
    rw (← own-totals c.args.known.now c.args.k c.first_large-p.ensures
    c.if-p-known.false c.total_of-c.ensures
    c.total_of-d.ensures) c.put_totals.ensures
