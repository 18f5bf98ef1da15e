use Rattle.series_log.proofs.after_of.Goals as goal

pub returns : goal.returns
returns c =
    rw (
      c.length_after-a.ensures,
      c.length_after-b.ensures,
      c.length_after-c.ensures,
      c.length_after-d.ensures,
    )
