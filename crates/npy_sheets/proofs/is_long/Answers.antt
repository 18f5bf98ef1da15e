use Rattle.npy_sheets.specs.Shown.{long-short, long-other, long-says}
use Rattle.npy_sheets.proofs.is_long.Goals as goal

pub returns-then-file-lt98316 : goal.returns-then-file-lt98316
returns-then-file-lt98316 c = long-short c.args.file.now c.if-file-lt98316.true

pub returns-then-not-starts_with : goal.returns-then-not-starts_with
returns-then-not-starts_with c =
    long-other c.args.file.now c.if-file-lt98316.false c.starts_with.ensures c.if-not-starts_with.true

pub returns : goal.returns
returns c =
    long-says c.args.file.now c.if-file-lt98316.false c.starts_with.ensures c.if-not-starts_with.false c.little_4.ensures.0
