use native.Mathlib.Omega.{arith}
use Prim.Native.Nat.{ℕ, ◌+◌}
use mathlib.Core.Path.{sym, ◌∙◌, ◌≡◌, ap}
use Rattle.report_say.specs.First.{looking-none, looking-more, looking-stop, looking_end}
use Rattle.report_broken.proofs.line.wrong_line.Goals as goal

pub loop-k-init : goal.loop-k-init
loop-k-init c = looking-none _ _ _

pub returns-then-not-is_line : goal.returns-then-not-is_line
returns-then-not-is_line c =
    looking-stop c.loop-k.invariant c.loop-k-test.true (sym c.is_line.ensures
    ∙ c.if-not-is_line.true)

pub loop-k-preserved : goal.loop-k-preserved
loop-k-preserved c =
    looking-more c.loop-k.invariant c.loop-k-test.true (sym c.is_line.ensures
    ∙ c.if-not-is_line.false)

pub returns : goal.returns
returns c =
    let all : c.args.n ≡ c.loop-k.k = omega (arith, c.loop-k.invariant.most, c.loop-k-test.false) in
    ap (λ (x : ℕ). c.args.from + x) all ∙ looking_end c.loop-k.invariant c.loop-k-test.false
