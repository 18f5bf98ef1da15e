use native.Mathlib.Omega.{arith}
use Rattle.sheet_text.specs.Put.{put-len}
use Rattle.npy_writing.specs.Front.{two_digits, numbers-none, numbers-put}
use Rattle.npy_writing.proofs.put_numbers.Goals as goal

pub returns-then-vars-eq0 : goal.returns-then-vars-eq0
returns-then-vars-eq0 c = numbers-none c.requires.fact_1 _ _ c.if-vars-eq0.true c.requires.fact_2

pub put_decimal-next-requires : goal.put_decimal-next-requires
put_decimal-next-requires c =
    omega (arith, two_digits _ (c.requires.fact_1.small 0), c.requires.fact_2)

pub put_rest-requires : goal.put_rest-requires
put_rest-requires c =
    record {
      fact_1 = c.requires.fact_1;
      fact_2 = (
        omega (arith, c.if-vars-eq0.false),
        omega (arith, two_digits _ (c.requires.fact_1.small 0), c.put_decimal-next.ensures.behind, put-len c.put_decimal-next.ensures, c.requires.fact_2),
      );
    }

pub returns : goal.returns
returns c =
    numbers-put c.requires.fact_1 _ _ (omega (arith, c.if-vars-eq0.false))
    c.put_decimal-next.ensures c.put_rest.ensures
