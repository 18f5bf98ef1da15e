use Rattle.std.specs.Prelude.{Ok}
use mathlib.Core.Path.{ap, ◌∙◌}
use native.Mathlib.Omega.{arith}
use Prim.Native.Nat.{◌<◌}
use lib.ListN.{length, length-set}
use Rattle.model.specs.Header.{stored}
use Rattle.shape_words.specs.Lengths.{count-pos, lengths_of_lem}
use Rattle.readings_short.specs.Short.{short-one, short-two}
use Rattle.readings_short.proofs.write_short.Goals as goal
use Rattle.readings_short.proofs.write_short.Goals.{then-stored_of-ge2, else-stored_of-ge2}

pub bounds-out-0 : goal.bounds-out-0
bounds-out-0 c =
    let some : 0 < stored c.args.h =
    count-pos (lengths_of_lem c.requires.fact_1.good.regular.rules) in
    omega (arith, some, c.requires.fact_1.room)

pub bounds-out-1 : goal.bounds-out-1
bounds-out-1 c = simp (length-set) (omega (arith, c.stored_of.ensures, c.if-stored_of-ge2.true, c.requires.fact_1.room))

pub shape_of-out : goal.shape_of-out
shape_of-out c =
    elim c.if-stored_of-ge2.branch [
      | then-stored_of-ge2 w ↦ ap length w.out-is ∙ simp (length-set)
      | else-stored_of-ge2 w ↦ ap length w.out-is ∙ simp (length-set)
    ]

pub returns : goal.returns
returns c =
    let some : 0 < stored c.args.h =
    count-pos (lengths_of_lem c.requires.fact_1.good.regular.rules) in
    record {
      answer = ap Ok c.pack.ensures;
      written = elim c.if-stored_of-ge2.branch [
        | then-stored_of-ge2 w ↦ w.out-is ∙ short-two c.args.h c.args.x c.args.out.now
            (omega (arith, c.stored_of.ensures, w.if-stored_of-ge2.true, c.requires.fact_1.room))
            (omega (arith, c.stored_of.ensures, w.if-stored_of-ge2.true, c.requires.fact_2))
        | else-stored_of-ge2 w ↦ w.out-is ∙ short-one c.args.h c.args.x c.args.out.now
            (omega (arith, some, c.requires.fact_1.room))
            (omega (arith, some, c.stored_of.ensures, w.if-stored_of-ge2.false))
      ];
    }
