use native.Mathlib.Omega.{arith}
use borrow.Author.Tests.{lt-ltb, le-ltb}
use Rattle.report_cover.specs.Room.{first-room}
use Rattle.model_forecast.specs.Covered.{cover_text}
use Rattle.report_cover.proofs.put_cover.Goals as goal

pub least_at-k-requires : goal.least_at-k-requires
least_at-k-requires c =
    rw c.header_of-h.ensures (omega (
      arith,
      first-room c.args.header,
      c.requires.fact_2,
    ))

pub returns-then-k-n : goal.returns-then-k-n
unfolding cover_text
returns-then-k-n c =
    rw (
      ← c.header_of-h.ensures,
      ← c.least_at-k.ensures,
      lt-ltb _ _ c.if-k-n.true,
    ) c.put_covered.ensures

pub returns : goal.returns
unfolding cover_text
returns c =
    rw (
      ← c.header_of-h.ensures,
      ← c.least_at-k.ensures,
      le-ltb _ _ c.if-k-n.false,
    ) c.put_uncovered.ensures
