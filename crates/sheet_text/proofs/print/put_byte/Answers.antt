use native.Mathlib.Omega.{arith}
use Rattle.sheet_text.specs.Put.{put-none, put-more}
use Rattle.sheet_text.proofs.print.put_byte.Goals as goal

pub returns : goal.returns
returns c = put-more (put-none _ _ (omega arith)) _ (omega arith)
