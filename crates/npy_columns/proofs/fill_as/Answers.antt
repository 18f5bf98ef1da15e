use mathlib.Core.Path.{◌≡◌}
use Prim.Native.Nat.{ℕ}
use borrow.Author.Tests.{ne_eqb}
use Rattle.npy_columns.specs.Lines.{width_of, in_columns_lem, in_rows, fit-four, fit-eight, width_four, width-eight}
use Rattle.npy_columns.proofs.fill_as.Goals as goal

-- every width but 4 is read as 8
as-eight : (b : ℕ) → (b ≡ 4 → ⊥) → width_of b ≡ width_of 8
unfolding width_of
as-eight b n = rw (ne_eqb b 4 n)

pub fill_columns-requires : goal.fill_columns-requires
fill_columns-requires c = record { fact_1 = c.requires.fact_1; fact_2 = rw c.if-width-eq4.true at c.requires.fact_2 }

pub returns-then-width-eq4 : goal.returns-then-width-eq4
returns-then-width-eq4 c =
    rw c.if-width-eq4.true
    (in_columns_lem c.args.order (width_of 4) c.args.file.now c.args.at c.args.n c.if-order-eq2.true c.fill_columns.ensures)

pub fill_columns-requires-else-width-eq4 : goal.fill_columns-requires-else-width-eq4
fill_columns-requires-else-width-eq4 c =
    record { fact_1 = c.requires.fact_1; fact_2 = rw (as-eight c.args.width c.if-width-eq4.false) at c.requires.fact_2 }

pub returns-else-width-eq4 : goal.returns-else-width-eq4
returns-else-width-eq4 c =
    rw (as-eight c.args.width c.if-width-eq4.false)
    (in_columns_lem c.args.order (width_of 8) c.args.file.now c.args.at c.args.n c.if-order-eq2.true
    c.fill_columns-else-width-eq4.ensures)

pub fill_4-requires : goal.fill_4-requires
fill_4-requires c = fit-four c.requires.fact_2 c.if-width-eq4-2.true

pub returns-then-width-eq4-2 : goal.returns-then-width-eq4-2
returns-then-width-eq4-2 c =
    in_rows c.args.order c.args.width c.args.file.now c.args.at c.args.n c.if-order-eq2.false
    (width_four c.args.width c.if-width-eq4-2.true) c.requires.fact_2.full c.fill_4.ensures

pub fill-requires : goal.fill-requires
fill-requires c = fit-eight c.requires.fact_2 c.if-width-eq4-2.false

pub returns : goal.returns
returns c =
    in_rows c.args.order c.args.width c.args.file.now c.args.at c.args.n c.if-order-eq2.false
    (width-eight c.args.width c.if-width-eq4-2.false) c.requires.fact_2.full c.fill.ensures
