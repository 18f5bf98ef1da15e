use Prim.Native.Nat.{ℕ}
use mathlib.Core.Path.{ap, ◌∙◌}
use lib.ListN.{take}
use borrow.Author.Rules.{rules}
use Rattle.series_log.proofs.log_into.Goals as goal

pub returns : goal.returns
returns c = record {
  out_after = c.copy.ensures
      ∙ (ap (λ (i : ℕ). take i c.log_block.new.work)
      (c.log_block.auto.row ∙ (c.requires.fact_1.out ∙ c.requires.fact_1.all))
      ∙ c.log_block.ensures.work_after);
  spent = (search rules);
}
