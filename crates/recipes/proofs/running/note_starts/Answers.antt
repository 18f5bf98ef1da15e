use native.Mathlib.Omega.{arith}
use mathlib.Core.Path.{◌≡◌, ap, ◌∙◌}
use Prim.Native.Nat.{ℕ, ◌≤◌}
use mathlib.Core.List.{List}
use lib.ListN.{length}
use Rattle.model.specs.Header.{stored}
use Rattle.recipes_check.specs.Counts.{word_ruled}
use Rattle.recipes.specs.Standing.{Begun, Starting, starting-none, starting-fits, starting-more}
use Rattle.recipes.proofs.running.note_starts.Goals as goal

ending : {hs old starts : List ℕ} {f i : ℕ} → Starting hs old starts f i → length hs ≤ i → Begun hs (length hs) old starts
ending {hs} {i = i} s l = let e : i ≡ length hs = omega (arith, s.most) in rw e at s.begun

pub loop-i-init : goal.loop-i-init
loop-i-init c = starting-none

pub offset_bounds-starts-i : goal.offset_bounds-starts-i
offset_bounds-starts-i c =
    omega (arith, c.requires.fact_2, c.loop-i.invariant.begun.len, c.well_formed)

pub bounds-starts-i : goal.bounds-starts-i
bounds-starts-i c = omega (arith, c.requires.fact_2, c.loop-i.invariant.begun.len)

pub stored_of-from-requires : goal.stored_of-from-requires
stored_of-from-requires c =
    rw c.header_of.ensures (word_ruled c.args.headers.now c.requires.fact_1 c.loop-i.i)

pub overflow_add-from : goal.overflow_add-from
overflow_add-from c =
    record {
      fits =
          starting-fits c.loop-i.invariant c.requires.fact_1
          (c.stored_of-from.ensures ∙ ap stored c.header_of.ensures) c.requires.fact_2.1;
    }

pub loop-i-preserved : goal.loop-i-preserved
loop-i-preserved c =
    starting-more c.loop-i.invariant c.requires.fact_1
    (c.stored_of-from.ensures ∙ ap stored c.header_of.ensures)
    c.loop-i-test.true c.requires.fact_2.0

pub shape_of-starts : goal.shape_of-starts
shape_of-starts c = c.loop-i.invariant.begun.len

pub returns : goal.returns
returns c = ending c.loop-i.invariant c.loop-i-test.false
