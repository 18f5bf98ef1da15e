use Rattle.std.proofs.lemmas.Result.{err_from_is_err_and}
use mathlib.Core.Path.{ap, refl}
use Rattle.model.specs.declared.Refusal.{Refusal}
use native.Mathlib.Omega.{arith}
use mathlib.Core.Path.{sym}
use lib.ListN.{length-take}
use lib.Seq.{length-take-le}
use Rattle.sheet_limits.specs.Limits.{own_checked, own-fit, own-known, own_5, own-none}
use Rattle.sheet_limits.proofs.judge_own.Goals as goal

pub returns-in_err-judge : goal.returns-in_err-judge
returns-in_err-judge c =
    let p = err_from_is_err_and c.from_residual.result c.from_residual.ensures.1 in
    let q = c.in_err-judge.ensures in
    rw (p.1, p.2) (record { some = q.some; holds = own_checked _ _ _ q.holds q.some })

pub slice_bounds-is_within-end : goal.slice_bounds-is_within-end
slice_bounds-is_within-end c =
    omega (arith, own-fit _ _ _ c.in_ok-judge.ensures refl, c.in_ok-judge.ensures.len)

pub slice_bounds-is_within-end-2 : goal.slice_bounds-is_within-end-2
slice_bounds-is_within-end-2 c = sym (length-take-le _ _
    (omega (arith, own-fit _ _ _ c.in_ok-judge.ensures refl, c.in_ok-judge.ensures.len)))

pub is_within-requires : goal.is_within-requires
is_within-requires c =
    record {
      fact_1 = own-known _ _ _ c.in_ok-judge.ensures refl;
      fact_2 = (
        simp length-take (omega (arith, own-fit _ _ _ c.in_ok-judge.ensures refl, c.in_ok-judge.ensures.len)),
        simp length-take (omega (arith, own-fit _ _ _ c.in_ok-judge.ensures refl)),
      );
    }

pub returns-then-not-is_within : goal.returns-then-not-is_within
returns-then-not-is_within c =
    record {
      some = λ z. omega (arith, ap (λ (r : Refusal). r.number) c.by.ensures, z);
      holds = rw c.by.ensures (own_5 _ _ _ c.in_ok-judge.ensures refl
          c.is_within.ensures c.if-not-is_within.true);
    }

pub returns : goal.returns
returns c =
    (own-none _ _ _ c.in_ok-judge.ensures refl
    c.is_within.ensures c.if-not-is_within.false)
