use Prim.Native.Nat.{◌+◌, ◌-◌}
use Rattle.model_settings.specs.Words.{version_of}
use native.Mathlib.Omega.{arith}
use Rattle.report_lines.specs.Puts.{puts_none}
use Rattle.settings_text.specs.Tests.{kept-none, kept-some}
use Rattle.settings_text.proofs.line.put_kept.Goals as goal

pub returns-then-v-k-lt7 : goal.returns-then-v-k-lt7
returns-then-v-k-lt7 c =
    rw (← kept-none c.args.words.now c.args.d c.args.k (omega arith)) (puts_none _ _)

pub returns-then-v-lt7 : goal.returns-then-v-lt7
returns-then-v-lt7 c =
    rw (← kept-some c.args.words.now c.args.d c.args.k
    (version_of c.args.words.now c.args.d + c.args.k - 7) (omega arith))
    c.put_version.ensures

pub returns : goal.returns
returns c =
    rw (← kept-some c.args.words.now c.args.d c.args.k
    (version_of c.args.words.now c.args.d - (7 - c.args.k)) (omega arith))
    c.put_version-2.ensures
