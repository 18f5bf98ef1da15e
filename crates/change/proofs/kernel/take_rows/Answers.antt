use Rattle.change.specs.Shift.{shift_small, shifted-regular}
use Rattle.change.specs.Taken.{scaled-past, scaled-rows, scaled-done, scaling}
use native.Mathlib.Omega.{arith}
use mathlib.Core.Path.{refl, sym, ap, ◌∙◌}
use mathlib.Core.List.{List}
use Prim.Native.Nat.{ℕ}
use lib.ListN.{length}
use Rattle.lists.specs.Four.{at}
use Rattle.lists.specs.Table.{length-table}
use Rattle.model.specs.Header.{stored}
use Rattle.model.specs.Refusals.{zeros, padded}
use Rattle.model.specs.Poly.{Poly, poly}
use Rattle.shape_words.specs.Lengths.{lengths_of_lem, count-pos}
use Rattle.readings_row.specs.Term.{padded-zero, padded-full}
use Rattle.change.proofs.kernel.take_rows.Goals as goal

pub returns-then-l-v : goal.returns-then-l-v
returns-then-l-v c =
    record {
      head = c.with_lengths.ensures ∙ ap (λ (q : Poly). q.head)
          (sym (scaled-past c.args.plain c.args.v c.args.n
          (poly c.args.h c.args.a.now) c.requires.is c.if-l-v.true));
      places = c.clear.ensures
          ∙ (ap zeros c.requires.room ∙ (padded-zero (count-pos (lengths_of_lem (shifted-regular c.requires).rules))
          ∙ ap (λ (q : Poly). padded (stored c.args.r) q.coeffs)
          (sym (scaled-past c.args.plain c.args.v c.args.n
          (poly c.args.h c.args.a.now) c.requires.is c.if-l-v.true))));
    }

pub overflow_mul-l : goal.overflow_mul-l
overflow_mul-l c =
    omega (arith, (shift_small c.requires (ap (λ (l : List ℕ). at l c.args.v) c.strides_of-strides.ensures) refl refl).0)

pub overflow_mul-c : goal.overflow_mul-c
overflow_mul-c c =
    omega (arith, (shift_small c.requires (ap (λ (l : List ℕ). at l c.args.v) c.strides_of-strides.ensures) refl refl).1)

pub scale_rows-requires : goal.scale_rows-requires
scale_rows-requires c =
    scaling c.requires (ap (λ (l : List ℕ). at l c.args.v) c.strides_of-strides.ensures) refl refl
    c.if-l-v.false

pub returns : goal.returns
returns c =
    let d =
    scaled-done c.requires (ap (λ (l : List ℕ). at l c.args.v)
    c.strides_of-strides.ensures) refl refl c.if-l-v.false c.args.plain
    c.args.a.now (rw c.first_factor.ensures at
    c.scale_rows.ensures) in record {
      head = ap (λ (q : Poly). q.head)
          (sym (scaled-rows c.args.plain c.args.v c.args.n
          (poly c.args.h c.args.a.now) c.requires.is c.if-l-v.false));
      places = d
          ∙ padded-full _ (ap (λ (q : Poly). length q.coeffs)
          (scaled-rows c.args.plain c.args.v c.args.n
          (poly c.args.h c.args.a.now) c.requires.is c.if-l-v.false)
          ∙ length-table _ (stored c.args.r));
    }
