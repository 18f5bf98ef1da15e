use native.Mathlib.Omega.{arith}
use Prim.Native.Nat.{◌*◌}
use mathlib.Core.Path.{sym, ◌∙◌}
use Rattle.model_texts.specs.Hex.{is_line}
use Rattle.lists.specs.Every.{passing-none, passing-more, passing-stop, passing_end}
use Rattle.settings_text.specs.Tests.{here, store-short, store_is}
use Rattle.settings_text.proofs.file.is_store.Goals as goal

pub returns-then-text-ne9248 : goal.returns-then-text-ne9248
returns-then-text-ne9248 c = store-short _ c.if-text-ne9248.true

pub loop-k-init : goal.loop-k-init
loop-k-init c = (c.if-text-ne9248.false, passing-none _ 544 0)

pub returns-then-not-is_line : goal.returns-then-not-is_line
returns-then-not-is_line c =
    store_is _ c.loop-k.invariant.0
    (passing-stop c.loop-k.invariant.1 (omega arith)
    (here (λ i. is_line c.args.text.now (17 * i)) c.loop-k.k
    (sym c.is_line.ensures ∙ c.if-not-is_line.true)))

pub loop-k-preserved : goal.loop-k-preserved
loop-k-preserved c = (
  c.loop-k.invariant.0,
  passing-more c.loop-k.invariant.1 (omega arith)
      (here (λ i. is_line c.args.text.now (17 * i)) c.loop-k.k
      (sym c.is_line.ensures ∙ c.if-not-is_line.false)),
)

pub returns : goal.returns
returns c = store_is _ c.loop-k.invariant.0 (passing_end c.loop-k.invariant.1 (omega arith))
