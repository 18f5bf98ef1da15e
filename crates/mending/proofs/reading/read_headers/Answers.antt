use native.Mathlib.Omega.{arith}
use Prim.Native.Nat.{◌+◌}
use Rattle.mending.specs.Lines.{line-most}
use Rattle.mending.specs.Headers.{headers-none, headers_len, headers-stop, headers-more, headers_end}
use Rattle.mending.proofs.reading.read_headers.Goals as goal

pub loop-i-init : goal.loop-i-init
loop-i-init c = headers-none _ _

pub old_word-requires : goal.old_word-requires
old_word-requires c =
    omega (
      arith,
      headers_len c.loop-i.invariant,
      c.line_at-at.ensures,
      line-most c.args.text.now
          (1 + c.loop-i.i),
    )

pub is_old_line-requires : goal.is_old_line-requires
is_old_line-requires c =
    omega (
      arith,
      headers_len c.loop-i.invariant,
      c.line_at-at.ensures,
      line-most c.args.text.now
          (1 + c.loop-i.i),
    )

pub returns-then-not-is_old_line-is_good : goal.returns-then-not-is_old_line-is_good
returns-then-not-is_old_line-is_good c =
    headers-stop c.loop-i.invariant (omega (arith, headers_len c.loop-i.invariant)) c.line_at-at.ensures
    c.old_word.ensures c.mended_header-word.ensures c.is_old_line.ensures
    c.is_good.ensures c.if-not-is_old_line-is_good.true

pub loop-i-preserved : goal.loop-i-preserved
loop-i-preserved c =
    headers-more c.loop-i.invariant (omega (arith, headers_len c.loop-i.invariant)) c.line_at-at.ensures
    c.old_word.ensures c.mended_header-word.ensures c.is_old_line.ensures
    c.is_good.ensures c.if-not-is_old_line-is_good.false

pub returns : goal.returns
returns c = headers_end c.loop-i.invariant (omega (arith, headers_len c.loop-i.invariant))
