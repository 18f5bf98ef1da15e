use mathlib.Core.Path.{sym, ap, ◌∙◌}
use Rattle.model.specs.Header.{stored}
use Rattle.model.specs.Refusals.{zeros, padded}
use Rattle.model.specs.Poly.{Poly, poly}
use Rattle.lists.specs.Table.{length-table}
use Rattle.shape_words.specs.Lengths.{lengths_of_lem, count-pos}
use Rattle.readings_row.specs.Term.{padded-zero, padded-full, termed-regular, termed_picking, term-past, term-row}
use Rattle.readings_row.proofs.take_term.Goals as goal

pub returns-then-n-v : goal.returns-then-n-v
returns-then-n-v c =
    record {
      head = c.with_lengths.ensures ∙ ap (λ (q : Poly). q.head)
          (sym (term-past c.args.v c.args.order (poly c.args.h c.args.a.now)
          c.requires.is c.if-n-v.true));
      places = c.clear.ensures
          ∙ (ap zeros c.requires.room ∙ (padded-zero (count-pos (lengths_of_lem (termed-regular c.requires).rules))
          ∙ ap (λ (q : Poly). padded (stored c.args.r) q.coeffs)
          (sym (term-past c.args.v c.args.order (poly c.args.h c.args.a.now)
          c.requires.is c.if-n-v.true))));
    }

pub pick-requires : goal.pick-requires
pick-requires c = termed_picking c.requires c.if-n-v.false

pub returns : goal.returns
returns c =
    record {
      head = ap (λ (q : Poly). q.head)
          (sym (term-row c.args.v c.args.order (poly c.args.h c.args.a.now)
          c.requires.is c.if-n-v.false));
      places = c.pick.ensures
          ∙ (padded-full _ (length-table _ (stored c.args.r))
          ∙ ap (λ (q : Poly). padded (stored c.args.r) q.coeffs)
          (sym (term-row c.args.v c.args.order (poly c.args.h c.args.a.now)
          c.requires.is c.if-n-v.false)));
    }
