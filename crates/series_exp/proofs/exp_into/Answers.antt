use Prim.Native.Nat.{ℕ}
use mathlib.Core.Path.{ap, ◌∙◌}
use lib.ListN.{take}
use borrow.Author.Rules.{rules}
use Rattle.series_exp.proofs.exp_into.Goals as goal

pub returns : goal.returns
returns c = record {
  out_after = c.copy.ensures
      ∙ (ap (λ (i : ℕ). take i c.exp_block.new.work)
      (c.exp_block.auto.row ∙ (c.requires.out ∙ c.requires.all))
      ∙ c.exp_block.ensures.work_after);
  spent = search rules;
}
